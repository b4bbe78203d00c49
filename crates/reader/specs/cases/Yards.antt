-- Document 01's yards ("Yards to try") as game sheets, at any lag, for every table of cases, and the split gate with a G body.
-- Assumes nothing.
use Rattle.std.specs.Prelude.{ℕ, List, [], ◌∷◌}
use Rattle.sheet.specs.Limits.{width}
use Rattle.sheet.specs.Form.{part, sheet_of}

-- a game sheet from its S, P, C and U bodies
unfoldable pub sheet_with : List ℕ → List ℕ → List ℕ → List ℕ → List ℕ
sheet_with s p c u = sheet_of width (part 83 s ∷ part 80 p ∷ part 67 c ∷ part 85 u ∷ [])

-- and with a G body
unfoldable pub gated_with : List ℕ → List ℕ → List ℕ → List ℕ → List ℕ → List ℕ
gated_with s p c u g = sheet_of width (part 83 s ∷ part 80 p ∷ part 67 c ∷ part 85 u ∷ part 71 g ∷ [])

-- the guess yard's C and U bodies
unfoldable pub guess_targets : List ℕ
guess_targets = 0 ∷ 0 ∷ 2 ∷ 0 ∷ 1 ∷ 3 ∷ 1 ∷ 0 ∷ 3 ∷ 1 ∷ 1 ∷ 2 ∷ []

unfoldable pub guess_moves : List ℕ
guess_moves = 2 ∷ 0 ∷ 2 ∷ 1 ∷ 3 ∷ 0 ∷ []

-- the guess yard; its first P byte is 0, or 1 in "with P 1 0 2 3"
unfoldable pub guess : ℕ → ℕ → List ℕ
guess first d = sheet_with (0 ∷ 2 ∷ d ∷ []) (first ∷ 0 ∷ 2 ∷ 3 ∷ []) guess_targets guess_moves

-- the split gate
unfoldable pub split_gate : ℕ → List ℕ
split_gate d = sheet_with (0 ∷ 2 ∷ d ∷ []) (0 ∷ 0 ∷ 2 ∷ []) (0 ∷ 0 ∷ 2 ∷ 1 ∷ 1 ∷ 2 ∷ []) (2 ∷ 0 ∷ 2 ∷ 1 ∷ [])

-- with a G body: W-207's "split gate at lag 1 is winning with holding gates"
unfoldable pub gated_split : List ℕ → ℕ → List ℕ
gated_split g d = gated_with (0 ∷ 2 ∷ d ∷ []) (0 ∷ 0 ∷ 2 ∷ []) (0 ∷ 0 ∷ 2 ∷ 1 ∷ 1 ∷ 2 ∷ []) (2 ∷ 0 ∷ 2 ∷ 1 ∷ []) g

-- the loop
unfoldable pub loop : ℕ → List ℕ
loop d = sheet_with (0 ∷ 1 ∷ d ∷ []) (0 ∷ 2 ∷ []) (0 ∷ 0 ∷ 1 ∷ []) (1 ∷ 0 ∷ [])

-- the sorting hall
unfoldable pub hall : ℕ → List ℕ
hall d =
    sheet_with (0 ∷ 2 ∷ d ∷ []) (0 ∷ 0 ∷ 0 ∷ 0 ∷ 2 ∷ 2 ∷ 2 ∷ [])
    (0 ∷ 0 ∷ 4 ∷ 0 ∷ 1 ∷ 4 ∷ 1 ∷ 0 ∷ 5 ∷ 1 ∷ 1 ∷ 5 ∷ 2 ∷ 0 ∷ 6 ∷ 3 ∷ 1 ∷ 6 ∷ [])
    (4 ∷ 2 ∷ 5 ∷ 3 ∷ 6 ∷ 0 ∷ 6 ∷ 1 ∷ [])
