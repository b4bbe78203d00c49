-- Tables of our own for the game `passing`, each with its ruling, which catch wrong judging; those for document 01's yards are in
-- judge/specs/cases/Tables.antt, over bytes. Assumes nothing.
use Rattle.std.specs.Prelude.{ℕ, List, [], ◌∷◌}
use Rattle.theory.specs.Table.{Table}
use Rattle.theory.specs.Judging.{Ruling, sound, bad_word, bad_node}

pub record Judging : Type 0 where
  pub delay : ℕ
  pub table : Table
  pub answer : Ruling

abbrev pub judging : ℕ → List ℕ → List ℕ → Ruling → Judging
judging d flags masks r = record { delay = d; table = record { flags = flags; masks = masks }; answer = r }

-- ours; a word without a mask, and the same beside a spoilt action, which comes after it; that action alone; a mask at an unsafe position,
-- and one on the wrong side, with no action spoilt
unfoldable pub judgings : List Judging
judgings =
    judging 2 (1 ∷ 0 ∷ []) (1 ∷ 0 ∷ 0 ∷ 0 ∷ 0 ∷ 0 ∷ 0 ∷ 0 ∷ []) sound
    ∷ judging 2 (1 ∷ 1 ∷ []) (1 ∷ 0 ∷ 0 ∷ 0 ∷ 0 ∷ 0 ∷ 0 ∷ 0 ∷ []) (bad_word 1)
    ∷ judging 2 (1 ∷ 1 ∷ []) (3 ∷ 0 ∷ 0 ∷ 0 ∷ 0 ∷ 0 ∷ 0 ∷ 0 ∷ []) (bad_word 1)
    ∷ judging 2 (1 ∷ 0 ∷ []) (3 ∷ 0 ∷ 0 ∷ 0 ∷ 0 ∷ 0 ∷ 0 ∷ 0 ∷ []) (bad_node 0)
    ∷ judging 2 (1 ∷ 0 ∷ []) (1 ∷ 0 ∷ 0 ∷ 1 ∷ 0 ∷ 0 ∷ 0 ∷ 0 ∷ []) (bad_node 3)
    ∷ judging 3 (1 ∷ 0 ∷ 0 ∷ 0 ∷ []) (1 ∷ 0 ∷ 0 ∷ 0 ∷ 1 ∷ 0 ∷ 0 ∷ 0 ∷ []) (bad_node 0)
    ∷ []
