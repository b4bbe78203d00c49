-- The arrays that the C and U bodies fill, and the game that they hold: g is the grid of targets, f the index of first lines, p and
-- u are the P and U bodies. Assumes nothing.
use Rattle.std.specs.Prelude.{ℕ, suc, ◌+◌, ◌-◌, ◌*◌, ◌/◌, min, Bool, cond, List, [], Option, Some, None, eqb, ltb, length, get_or}
use Rattle.theory.specs.Fold.{both, first_not, tabulate}
use Rattle.theory.specs.Game.{Target, absent, to, Game}
use Rattle.sheet.specs.Limits.{most_positions, most_actions, most_moves}
use Rattle.sheet.specs.SheetGame.{target_in, game_by}

-- the grid's mark for an absent target: no position has it
abbrev pub absent_mark : ℕ
absent_mark = most_positions

unfoldable pub mark_of : Target → ℕ
mark_of absent = absent_mark
mark_of (to q) = q

unfoldable pub row_of : List ℕ → ℕ → ℕ → List ℕ
row_of c n q = tabulate (λ x. mark_of (target_in c q x n)) 0 most_actions

-- the grid after the first n lines of the C body
unfoldable pub grid_after : List ℕ → ℕ → List (List ℕ)
grid_after c n = tabulate (row_of c n) 0 most_positions

-- "The C body means a grid of targets: one row for each position, eight targets a row, some absent"
unfoldable pub grid_of : List ℕ → List (List ℕ)
grid_of c = grid_after c (length c / 3)

unfoldable pub unmark : ℕ → Target
unmark t = cond (eqb t absent_mark) absent (to t)

-- the same without a mark
abbrev pub target_from : Option ℕ → Target
target_from None = absent
target_from (Some q) = to q

-- what a grid says of position q and action x. Like the code it reads an entry past the end as 0, so it needs no row's length
unfoldable pub target_at : List (List ℕ) → ℕ → ℕ → Target
target_at g q x = cond (both (ltb q most_positions) (ltb x most_actions)) (unmark (get_or (get_or g q []) x 0)) absent

-- the lines of a U body that are looked at: check 5 leaves no more
abbrev pub line_count : List ℕ → ℕ
line_count u = min (length u / 2) most_moves

-- line i of the U body is of a position below q
unfoldable pub from_below : List ℕ → ℕ → ℕ → Bool
from_below u q i = ltb (get_or u (2 * i) 0) q

-- the first line of the U body that is not of a position below q; the number of lines where there is none
unfoldable pub first_line : List ℕ → ℕ → ℕ
first_line u q = first_not (from_below u q) (suc (line_count u))

-- the entries of the index of first lines, one more than there are positions
abbrev pub index_entries : ℕ
index_entries = most_positions + 1

-- the index: an entry for each position, and one for the end of the last position's lines
unfoldable pub firsts_of : List ℕ → List ℕ
firsts_of u = tabulate (first_line u) 0 index_entries

-- line i of the U body: "from, to"
unfoldable pub to_at : List ℕ → ℕ → ℕ
to_at u i = get_or u (2 * i + 1) 0

-- the targets on the lines from i up to e
unfoldable pub tos_between : List ℕ → ℕ → ℕ → List ℕ
tos_between u i e = tabulate (to_at u) i (e - i)

-- the game that the arrays hold
unfoldable pub view_of : List ℕ → List (List ℕ) → List ℕ → List ℕ → ℕ → ℕ → Game
view_of p g u f start actions = game_by p start actions (target_at g) (λ q. tos_between u (get_or f q 0) (get_or f (suc q) 0))

-- the game of a P body, a grid and a U body with its index
unfoldable pub bodies_game : List ℕ → List (List ℕ) → List ℕ → ℕ → ℕ → Game
bodies_game p g u start actions = view_of p g u (firsts_of u) start actions
