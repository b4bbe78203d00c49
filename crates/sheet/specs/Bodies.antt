-- The bodies of a game sheet: document 01's yard sheet, "S, P, C, U", and W-207's "fifth entry G after U". Assumes nothing.
use Rattle.std.specs.Prelude.{ℕ, Bool, cond, List, [], ◌∷◌, eqb, get_or}
use Rattle.theory.specs.Fold.{both}
use Rattle.sheet.specs.Limits.{width, gated_contents}
use Rattle.sheet.specs.Form.{offset_of, body_of}

-- S, P, C, U: with two-byte numbers, "20 bytes of contents"
abbrev pub game_letters : List ℕ
game_letters = 83 ∷ 80 ∷ 67 ∷ 85 ∷ []

-- S, P, C, U, G: "contents are then 25 bytes"
abbrev pub gated_letters : List ℕ
gated_letters = 83 ∷ 80 ∷ 67 ∷ 85 ∷ 71 ∷ []

-- "the first offset is 20 or 25 and says which kind it is"
unfoldable pub is_gated : List ℕ → Bool
is_gated s = eqb (offset_of width s 0) gated_contents

unfoldable pub letters_of : List ℕ → List ℕ
letters_of s = cond (is_gated s) gated_letters game_letters

abbrev pub header_body : List ℕ → List ℕ
header_body s = body_of width s 0

abbrev pub positions_body : List ℕ → List ℕ
positions_body s = body_of width s 1

abbrev pub targets_body : List ℕ → List ℕ
targets_body s = body_of width s 2

abbrev pub moves_body : List ℕ → List ℕ
moves_body s = body_of width s 3

-- of a sheet that has one
abbrev pub gates_body : List ℕ → List ℕ
gates_body s = body_of width s 4

-- "0 as before, 1 holding gates; without G the sheet means what it did"
unfoldable pub is_holding : List ℕ → Bool
is_holding s = both (is_gated s) (eqb (get_or (gates_body s) 0 0) 1)

-- the S body: "start, A, lag"
unfoldable pub start_of : List ℕ → ℕ
start_of s = get_or (header_body s) 0 0

unfoldable pub action_count : List ℕ → ℕ
action_count s = get_or (header_body s) 1 0

unfoldable pub delay_of : List ℕ → ℕ
delay_of s = get_or (header_body s) 2 0
