-- Sizes of the worklist, named once. Assumes nothing.
use Rattle.std.specs.Prelude.{ℕ, ◌*◌, ◌^◌}
use Rattle.sheet.specs.Limits.{most_positions, most_actions}

-- the cells of the grid
abbrev pub most_cells : ℕ
most_cells = most_positions * most_actions

-- the largest number of two bytes: the numbers of rounds and links are below it, so that the next one fits too
abbrev pub largest16 : ℕ
largest16 = 65535

-- more than any word with a cell's action as its oldest, far below what a product could wrap at
abbrev pub word_bound : ℕ
word_bound = 2 ^ 20
