-- Sheets with the answers that document 01 gives them: the table that proofs/Cases.antt computes.
-- Not here, for their size, but run by tests/solving.rs (limits_of_size): sheets of 4,096 and 4,097 moves, and of 256 positions with
-- A 8, which pass 7 at lag 4 and don't at lag 6. Assumes nothing.
use Rattle.std.specs.Prelude.{ℕ, zero, suc, ◌+◌, Bool, true, false, List, [], ◌∷◌, ◌++◌, take, set, replicate}
use Rattle.theory.specs.Answer.{Answer, refused, accepted}
use Rattle.reader.specs.cases.Yards.{sheet_with, gated_with, gated_split, guess_targets, guess_moves, guess, loop}
use Rattle.reader.specs.declared.reading.Layout.{Layout}

pub record Case : Type 0 where
  pub sheet : List ℕ
  pub answer : Answer Layout

-- document 01's guess yard, lag 1, byte by byte: "45 bytes with contents"
unfoldable pub guess_bytes : List ℕ
guess_bytes =
    83 ∷ 20 ∷ 0 ∷ 3 ∷ 0 ∷ 80 ∷ 23 ∷ 0 ∷ 4 ∷ 0 ∷ 67 ∷ 27 ∷ 0 ∷ 12 ∷ 0 ∷ 85 ∷ 39 ∷ 0 ∷ 6 ∷ 0
    ∷ 0 ∷ 2 ∷ 1
    ∷ 0 ∷ 0 ∷ 2 ∷ 3
    ∷ 0 ∷ 0 ∷ 2 ∷ 0 ∷ 1 ∷ 3 ∷ 1 ∷ 0 ∷ 3 ∷ 1 ∷ 1 ∷ 2
    ∷ 2 ∷ 0 ∷ 2 ∷ 1 ∷ 3 ∷ 0 ∷ []

-- the guess yard with other bodies S, P, C or U
unfoldable pub guess_s : List ℕ → List ℕ
guess_s h = sheet_with h (0 ∷ 0 ∷ 2 ∷ 3 ∷ []) guess_targets guess_moves

unfoldable pub guess_p : List ℕ → List ℕ
guess_p p = sheet_with (0 ∷ 2 ∷ 1 ∷ []) p guess_targets guess_moves

unfoldable pub guess_c : List ℕ → List ℕ
guess_c c = sheet_with (0 ∷ 2 ∷ 1 ∷ []) (0 ∷ 0 ∷ 2 ∷ 3 ∷ []) c guess_moves

unfoldable pub guess_u : List ℕ → List ℕ
guess_u u = sheet_with (0 ∷ 2 ∷ 1 ∷ []) (0 ∷ 0 ∷ 2 ∷ 3 ∷ []) guess_targets u

-- n own positions that all lead to one of the yard, and back, with A 8 at a lag
unfoldable pub lines : ℕ → ℕ → ℕ → List ℕ
lines end from zero = []
lines end from (suc n) = from ∷ 0 ∷ end ∷ lines end (suc from) n

unfoldable pub star : ℕ → ℕ → List ℕ
star n d = sheet_with (0 ∷ 8 ∷ d ∷ []) (replicate n 0 ++ (2 ∷ [])) (lines n 0 n) (n ∷ 0 ∷ [])

-- what a reading of a sheet with these numbers carries: the start bytes, where P, C and U lie, how many positions lie on plays, and
-- whether the gates hold; the S body begins at a place
unfoldable pub layout_at : ℕ → Bool → ℕ → ℕ → ℕ → ℕ → ℕ → ℕ → ℕ → Layout
layout_at at holding start actions delay p c u reached =
    record {
      start = start;
      actions = actions;
      delay = delay;
      header = record { at = at; size = 3 };
      positions = record { at = at + 3; size = p };
      targets = record { at = at + 3 + p; size = c };
      moves = record { at = at + 3 + p + c; size = u };
      reached = reached;
      holding = holding;
    }

unfoldable pub layout : ℕ → ℕ → ℕ → ℕ → ℕ → ℕ → ℕ → Layout
layout = layout_at 20 false

-- the split gate with holding gates, and with other C, U and G bodies
unfoldable pub held_bytes : List ℕ
held_bytes = gated_split (1 ∷ []) 1

unfoldable pub gated_faults : List ℕ → List ℕ → List ℕ → List ℕ
gated_faults c u g = gated_with (0 ∷ 2 ∷ 1 ∷ []) (0 ∷ 0 ∷ 2 ∷ []) c u g

unfoldable pub right : List ℕ → Layout → Case
right s l = record { sheet = s; answer = accepted l }

unfoldable pub wrong : ℕ → List ℕ → Case
wrong n s = record { sheet = s; answer = refused n }

unfoldable pub cases : List Case
cases =
    right guess_bytes (layout 0 2 1 4 12 6 4)
    ∷ right (guess 0 1) (layout 0 2 1 4 12 6 4)
    ∷ right (loop 6) (layout 0 1 6 2 3 2 2)
    -- W-201: "its moves 0 1 3 and 2 1 left out"; the only way on passes an unsafe position; one is reached by the last command alone
    ∷ right (sheet_with (0 ∷ 2 ∷ 1 ∷ []) (0 ∷ 0 ∷ 2 ∷ 3 ∷ []) (0 ∷ 0 ∷ 2 ∷ 1 ∷ 0 ∷ 3 ∷ 1 ∷ 1 ∷ 2 ∷ []) (2 ∷ 0 ∷ 3 ∷ 0 ∷ [])) (layout 0 2 1 4 9 4 2)
    ∷ right (sheet_with (0 ∷ 1 ∷ 0 ∷ []) (0 ∷ 0 ∷ 3 ∷ 2 ∷ []) (0 ∷ 0 ∷ 2 ∷ 1 ∷ 0 ∷ 3 ∷ []) (2 ∷ 1 ∷ 3 ∷ 1 ∷ [])) (layout 0 1 0 4 6 4 4)
    ∷ right (sheet_with (0 ∷ 8 ∷ 0 ∷ []) (0 ∷ 2 ∷ 2 ∷ []) (0 ∷ 0 ∷ 1 ∷ 0 ∷ 7 ∷ 2 ∷ []) (1 ∷ 0 ∷ 2 ∷ 0 ∷ [])) (layout 0 8 0 3 6 4 3)
    -- 1: short, letters, first offset, a gap, an offset 256 too high, an end before and after the sheet's
    ∷ wrong 1 []
    ∷ wrong 1 (take 19 guess_bytes)
    ∷ wrong 1 (set guess_bytes 0 80)
    ∷ wrong 1 (set guess_bytes 15 86)
    ∷ wrong 1 (set guess_bytes 1 19)
    ∷ wrong 1 (set guess_bytes 6 24)
    ∷ wrong 1 (set guess_bytes 7 1)
    ∷ wrong 1 (take 44 guess_bytes)
    ∷ wrong 1 (guess_bytes ++ (0 ∷ []))
    -- 2: no position, 257 of them (256 pass, and most have no move), a byte over 3
    ∷ wrong 2 (guess_p [])
    ∷ wrong 2 (guess_p (replicate 257 0))
    ∷ wrong 6 (guess_p (0 ∷ 0 ∷ 2 ∷ 3 ∷ replicate 252 0))
    ∷ wrong 2 (guess_p (0 ∷ 0 ∷ 2 ∷ 4 ∷ []))
    -- 3: four bytes, A 0 and 9, lag 7, start absent and the yard's
    ∷ wrong 3 (guess_s (0 ∷ 2 ∷ 1 ∷ 0 ∷ []))
    ∷ wrong 3 (guess_s (0 ∷ 0 ∷ 1 ∷ []))
    ∷ wrong 3 (guess_s (0 ∷ 9 ∷ 1 ∷ []))
    ∷ wrong 3 (loop 7)
    ∷ wrong 3 (guess_s (4 ∷ 2 ∷ 1 ∷ []))
    ∷ wrong 3 (guess_s (2 ∷ 2 ∷ 1 ∷ []))
    -- 4: a byte over, equal and falling keys, from the yard's and absent, command A, to own
    ∷ wrong 4 (guess_c (0 ∷ 0 ∷ 2 ∷ 1 ∷ []))
    ∷ wrong 4 (guess_c (0 ∷ 0 ∷ 2 ∷ 0 ∷ 0 ∷ 3 ∷ 1 ∷ 0 ∷ 3 ∷ []))
    ∷ wrong 4 (guess_c (1 ∷ 0 ∷ 2 ∷ 0 ∷ 1 ∷ 3 ∷ []))
    ∷ wrong 4 (guess_c (2 ∷ 0 ∷ 2 ∷ []))
    ∷ wrong 4 (guess_c (4 ∷ 0 ∷ 2 ∷ []))
    ∷ wrong 4 (guess_c (0 ∷ 2 ∷ 2 ∷ 1 ∷ 0 ∷ 2 ∷ []))
    ∷ wrong 4 (guess_c (0 ∷ 0 ∷ 1 ∷ 1 ∷ 0 ∷ 2 ∷ []))
    -- 5: a byte over, equal and falling keys, from own, to the yard's and absent
    ∷ wrong 5 (guess_u (2 ∷ 0 ∷ 3 ∷ []))
    ∷ wrong 5 (guess_u (2 ∷ 0 ∷ 2 ∷ 0 ∷ 3 ∷ 0 ∷ []))
    ∷ wrong 5 (guess_u (3 ∷ 0 ∷ 2 ∷ 0 ∷ []))
    ∷ wrong 5 (guess_u (1 ∷ 0 ∷ 2 ∷ 0 ∷ 3 ∷ 0 ∷ []))
    ∷ wrong 5 (guess_u (2 ∷ 3 ∷ 3 ∷ 0 ∷ []))
    ∷ wrong 5 (guess_u (2 ∷ 4 ∷ 3 ∷ 0 ∷ []))
    -- 6: an own position and one of the yard without a move
    ∷ wrong 6 (guess_c (0 ∷ 0 ∷ 2 ∷ []))
    ∷ wrong 6 (guess_u (2 ∷ 0 ∷ []))
    -- 7: A 8, lag 6: 32 positions pass and 33 don't
    ∷ right (star 31 6) (layout 0 8 6 32 93 2 2)
    ∷ wrong 7 (star 32 6)
    -- W-207: G of 1 and of 0; for 24 another byte, two bytes and none
    ∷ right held_bytes (layout_at 25 true 0 2 1 3 6 4 3)
    ∷ right (gated_split (0 ∷ []) 1) (layout_at 25 false 0 2 1 3 6 4 3)
    ∷ wrong 24 (gated_split (2 ∷ []) 1)
    ∷ wrong 24 (gated_split (1 ∷ 1 ∷ []) 1)
    ∷ wrong 24 (gated_split [] 1)
    -- the first offset says which kind: no letter G, no room for it, an entry too many, and none between 20 and 25
    ∷ wrong 1 (set held_bytes 20 72)
    ∷ wrong 1 (take 24 held_bytes)
    ∷ wrong 1 (set held_bytes 1 20)
    ∷ wrong 1 (set guess_bytes 1 25)
    ∷ wrong 1 (set held_bytes 1 21)
    ∷ wrong 1 (set held_bytes 1 24)
    ∷ wrong 1 (set held_bytes 1 26)
    -- 5 and 24, 24 and 6, 24 and 7, 4 and 24
    ∷ wrong 5 (gated_faults (0 ∷ 0 ∷ 2 ∷ 1 ∷ 1 ∷ 2 ∷ []) (2 ∷ 1 ∷ 2 ∷ 0 ∷ []) (2 ∷ []))
    ∷ wrong 24 (gated_faults (0 ∷ 0 ∷ 2 ∷ []) (2 ∷ 0 ∷ 2 ∷ 1 ∷ []) (2 ∷ []))
    ∷ wrong 24 (gated_with (0 ∷ 8 ∷ 6 ∷ []) (replicate 32 0 ++ (2 ∷ [])) (lines 32 0 32) (32 ∷ 0 ∷ []) (2 ∷ []))
    ∷ wrong 4 (gated_faults (0 ∷ 2 ∷ 2 ∷ []) (2 ∷ 0 ∷ 2 ∷ 1 ∷ []) (2 ∷ []))
    -- two reasons: the first counts. 1 and 2, 2 and 3, 3 and 4, 4 and 5, 5 and 6, 6 and 7
    ∷ wrong 1 (guess_p (0 ∷ 0 ∷ 2 ∷ 4 ∷ []) ++ (0 ∷ []))
    ∷ wrong 2 (sheet_with (0 ∷ 9 ∷ 1 ∷ []) (0 ∷ 0 ∷ 2 ∷ 4 ∷ []) [] [])
    ∷ wrong 3 (sheet_with (0 ∷ 2 ∷ 7 ∷ []) (0 ∷ 2 ∷ []) (0 ∷ []) (1 ∷ 0 ∷ []))
    ∷ wrong 4 (sheet_with (0 ∷ 2 ∷ 1 ∷ []) (0 ∷ 2 ∷ []) (0 ∷ 0 ∷ 0 ∷ []) (1 ∷ []))
    ∷ wrong 5 (sheet_with (0 ∷ 2 ∷ 1 ∷ []) (0 ∷ 2 ∷ []) [] (1 ∷ 1 ∷ []))
    ∷ wrong 6 (sheet_with (0 ∷ 8 ∷ 6 ∷ []) (replicate 33 0) [] [])
    ∷ []
