-- `begun` meets its contract. The positions that the lines passed begin with are marked. Assumes nothing.
use mathlib.Core.Path.{◌≡◌}
use Rattle.theory.specs.Fold.{tabulate}
use Rattle.sheet.specs.Limits.{most_positions}
use Rattle.reader.specs.Checks.{has_line}
use Rattle.reader.proofs.lines.begun.Given as goal

abbrev pub invariant-loop-line : goal.invariant-loop-line
invariant-loop-line g l = l.begun ≡ tabulate (has_line g.row.W l.b l.line-index) 0 most_positions
