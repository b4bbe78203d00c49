-- `first_lines` meets its contract. The entries of the positions passed are in place. Assumes nothing.
use Prim.Native.Nat.{◌≤◌}
use mathlib.Core.Path.{◌≡◌}
use mathlib.Core.Bool.{true}
use lib.ListN.{length}
use Rattle.theory.specs.Fold.{all_below}
use Rattle.theory.proofs.Filling.{filled}
use Rattle.sheet.specs.code.Arrays.{from_below, first_line, line_count, index_entries}
use Rattle.sheet.proofs.moves.first_lines.Given as goal

abbrev pub invariant-loop-q : goal.invariant-loop-q
invariant-loop-q l = (l.line ≤ line_count l.u) × (all_below (from_below l.u l.q) l.line ≡ true) × (length l.initial.first-items ≡ index_entries) × (length l.first-items ≡ index_entries) × (l.first-items ≡ filled (first_line l.u) l.q l.initial.first-items)
