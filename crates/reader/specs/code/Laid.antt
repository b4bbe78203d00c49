-- The grid of a sheet that was read, by its layout: completed where the gates hold. Assumes nothing.
use Rattle.std.specs.Prelude.{List, ℕ}
use Rattle.sheet.specs.Form.{part_at}
use Rattle.gates.specs.code.Held.{held_grid}
use Rattle.reader.specs.declared.reading.Layout.{Layout}

unfoldable pub grid_at : List ℕ → Layout → List (List ℕ)
grid_at s l = held_grid l.holding l.actions (part_at s l.targets)
