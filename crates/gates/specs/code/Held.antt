-- The grid of targets of a game with so many actions whose gates hold, as marks: g is a grid, row one of its rows. Assumes nothing.
use Rattle.std.specs.Prelude.{ℕ, Bool, cond, List, [], eqb, ltb, get_or}
use Rattle.theory.specs.Fold.{both, tabulate}
use Rattle.sheet.specs.Limits.{most_positions, most_actions}
use Rattle.sheet.specs.code.Arrays.{absent_mark, grid_of}

-- the mark of action x: action 0's where its own is missing
unfoldable pub cell_held : ℕ → List ℕ → ℕ → ℕ
cell_held actions row x = cond (both (eqb (get_or row x 0) absent_mark) (ltb x actions)) (get_or row 0 0) (get_or row x 0)

unfoldable pub row_held : ℕ → List ℕ → List ℕ
row_held actions row = tabulate (cell_held actions row) 0 most_actions

unfoldable pub row_held_at : ℕ → List (List ℕ) → ℕ → List ℕ
row_held_at actions g q = row_held actions (get_or g q [])

unfoldable pub grid_held : ℕ → List (List ℕ) → List (List ℕ)
grid_held actions g = tabulate (row_held_at actions g) 0 most_positions

-- the grid of a C body, completed where gates hold
unfoldable pub held_grid : Bool → ℕ → List ℕ → List (List ℕ)
held_grid holding actions c = cond holding (grid_held actions (grid_of c)) (grid_of c)
