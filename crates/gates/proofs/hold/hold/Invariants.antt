-- `hold` meets its contract. The rows passed are in place. Assumes nothing.
use mathlib.Core.Path.{◌≡◌}
use lib.ListN.{length}
use Rattle.theory.proofs.Filling.{filled}
use Rattle.sheet.specs.Limits.{most_positions}
use Rattle.gates.specs.code.Held.{row_held_at}
use Rattle.gates.proofs.hold.hold.Given as goal

abbrev pub invariant-loop-row : goal.invariant-loop-row
invariant-loop-row l = (length l.grid ≡ most_positions) × (l.row-items ≡ filled (row_held_at l.actions l.grid) l.row-index l.grid)
