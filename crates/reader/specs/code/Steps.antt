-- What inner functions of the reading answer. Assumes nothing.
use Rattle.std.specs.Prelude.{ℕ, ◌-◌, ◌≡◌, Bool, true, false, cond, List, [], eqb, ltb, get_or}
use Rattle.theory.specs.Fold.{both, either}
use Rattle.theory.specs.Answer.{Answer, accepted, check}
use Rattle.sheet.specs.Limits.{width}
use Rattle.sheet.specs.Kinds.{controller_at, environment_at}
use Rattle.sheet.specs.Form.{contents_ok}
use Rattle.reader.specs.Checks.{key_at, positions_ok, header_ok, targets_ok, moves_ok, gates_ok, all_leave}
use Rattle.sheet.specs.Bodies.{letters_of, header_body, positions_body, targets_body, moves_body, action_count}
use Rattle.reader.specs.Reading.{layout_of}
use Rattle.reader.specs.declared.reading.Layout.{Layout}

-- checks 4 and 5 over lines as arrays: line k has a larger key than the line before it
abbrev pub follows : List (List ℕ) → ℕ → Bool
follows xs k = either (eqb k 0) (ltb (key_at (get_or xs (k - 1) []) 0) (key_at (get_or xs k []) 0))

-- from the controller's side to the environment's, by an action
abbrev pub target_sides : List ℕ → ℕ → ℕ → ℕ → ℕ → Bool
target_sides p a from action to = both (controller_at p from) (both (ltb action a) (environment_at p to))

abbrev pub target_line : List ℕ → ℕ → List ℕ → Bool
target_line p a x = target_sides p a (get_or x 0 0) (get_or x 1 0) (get_or x 2 0)

-- from the environment's side to the controller's
abbrev pub move_sides : List ℕ → ℕ → ℕ → Bool
move_sides p from to = both (environment_at p from) (controller_at p to)

abbrev pub move_line : List ℕ → List ℕ → Bool
move_line p x = move_sides p (get_or x 0 0) (get_or x 1 0)

-- `leaves_at`, from the positions that the C lines and the U lines begin with
unfoldable pub leaves_by : List ℕ → List Bool → List Bool → ℕ → Bool
leaves_by p targets moves q = cond (controller_at p q) (get_or targets q false) (get_or moves q false)

-- checks 4, 5, 24 and 6 alone
abbrev pub lines_answer : List ℕ → Answer Layout
lines_answer s =
    check (targets_ok (positions_body s) (action_count s) (targets_body s)) 4
    (check (moves_ok (positions_body s) (moves_body s)) 5
    (check (gates_ok s) 24
    (check (all_leave (positions_body s) (targets_body s) (moves_body s)) 6 (accepted (layout_of s)))))

-- checks 1 to 3 passed
pub record Headed (s : List ℕ) : Type 0 where
  pub contents : contents_ok width (letters_of s) s ≡ true
  pub positions : positions_ok (positions_body s) ≡ true
  pub header : header_ok (positions_body s) (header_body s) ≡ true

-- checks 1 to 6 passed, and 24
pub record Checked (s : List ℕ) : Type 0 where
  pub headed : Headed s
  pub targets : targets_ok (positions_body s) (action_count s) (targets_body s) ≡ true
  pub moves : moves_ok (positions_body s) (moves_body s) ≡ true
  pub gates : gates_ok s ≡ true
  pub leave : all_leave (positions_body s) (targets_body s) (moves_body s) ≡ true
