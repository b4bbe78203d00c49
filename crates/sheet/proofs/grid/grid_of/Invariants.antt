-- `grid_of` meets its contract. The loop has the grid of the lines that it has passed. Assumes nothing.
use mathlib.Core.Path.{◌≡◌}
use Rattle.sheet.specs.code.Arrays.{grid_after}
use Rattle.sheet.proofs.grid.grid_of.Given as goal

abbrev pub invariant-loop-from : goal.invariant-loop-from
invariant-loop-from l = l.grid ≡ grid_after l.c l.from-index
