-- Tables made elsewhere for document 01's yards, over bytes, each with its answer: a yes with less than ours in it, every kind of no, and
-- the order of the last refusals. Assumes nothing.
use Rattle.std.specs.Prelude.{ℕ, List, [], ◌∷◌}
use Rattle.theory.specs.Answer.{Answer, refused, accepted}
use Rattle.theory.specs.Judging.{Ruling, sound, bad_word, bad_node}
use Rattle.sheet.specs.Limits.{width}
use Rattle.sheet.specs.Form.{part, sheet_of}
use Rattle.reader.specs.cases.Yards.{guess, loop, hall}

pub record Case : Type 0 where
  pub sheet : List ℕ
  pub table : List ℕ
  pub answer : Answer Ruling

abbrev pub case : List ℕ → List ℕ → Answer Ruling → Case
case s t a = record { sheet = s; table = t; answer = a }

-- a table sheet from its S, W and T bodies
unfoldable pub table_from : List ℕ → List ℕ → List ℕ → List ℕ
table_from h w t = sheet_of width (part 83 h ∷ part 87 w ∷ part 84 t ∷ [])

-- one for the sorting hall at lag 2, with this start
unfoldable pub hall_by : ℕ → List ℕ → List ℕ → List ℕ
hall_by start w t = table_from (start ∷ 2 ∷ 2 ∷ 6 ∷ []) w t

-- ours
unfoldable pub hall_ours : List ℕ
hall_ours = hall_by 0 (1 ∷ 1 ∷ []) (1 ∷ 1 ∷ 2 ∷ 2 ∷ 3 ∷ 0 ∷ 0 ∷ 3 ∷ 0 ∷ 0 ∷ 0 ∷ 0 ∷ 0 ∷ 0 ∷ [])

-- less than ours: one first word, and of two commands always the lower
unfoldable pub hall_less : List ℕ
hall_less = hall_by 0 (1 ∷ 0 ∷ []) (1 ∷ 0 ∷ 2 ∷ 0 ∷ 1 ∷ 0 ∷ 0 ∷ 1 ∷ 0 ∷ 0 ∷ 0 ∷ 0 ∷ 0 ∷ 0 ∷ [])

unfoldable pub cases : List Case
cases =
    case (hall 2) hall_ours (accepted sound)
    ∷ case (hall 2) hall_less (accepted sound)
    -- a word whose pair has no mask
    ∷ case (hall 2) (hall_by 0 (1 ∷ 1 ∷ []) (1 ∷ 0 ∷ 2 ∷ 0 ∷ 1 ∷ 0 ∷ 0 ∷ 1 ∷ 0 ∷ 0 ∷ 0 ∷ 0 ∷ 0 ∷ 0 ∷ [])) (accepted (bad_word 1))
    -- a command that is not permitted on arrival
    ∷ case (hall 2) (hall_by 0 (1 ∷ 1 ∷ []) (3 ∷ 1 ∷ 2 ∷ 2 ∷ 3 ∷ 0 ∷ 0 ∷ 3 ∷ 0 ∷ 0 ∷ 0 ∷ 0 ∷ 0 ∷ 0 ∷ [])) (accepted (bad_node 0))
    -- one that leads to a pair without a mask
    ∷ case (hall 2) (hall_by 0 (1 ∷ 0 ∷ []) (1 ∷ 0 ∷ 2 ∷ 0 ∷ 3 ∷ 0 ∷ 0 ∷ 1 ∷ 0 ∷ 0 ∷ 0 ∷ 0 ∷ 0 ∷ 0 ∷ [])) (accepted (bad_node 4))
    -- a mask on the wrong side
    ∷ case (hall 2) (hall_by 0 (1 ∷ 1 ∷ []) (1 ∷ 1 ∷ 2 ∷ 2 ∷ 3 ∷ 0 ∷ 0 ∷ 3 ∷ 1 ∷ 0 ∷ 0 ∷ 0 ∷ 0 ∷ 0 ∷ [])) (accepted (bad_node 8))
    -- the same where no command is spoilt: an own position has no yard moves
    ∷ case (loop 1) (table_from (0 ∷ 1 ∷ 1 ∷ 1 ∷ []) (1 ∷ []) (1 ∷ 1 ∷ [])) (accepted (bad_node 0))
    -- a mask at an unsafe position, where no command is spoilt
    ∷ case (guess 0 1) (table_from (0 ∷ 2 ∷ 1 ∷ 3 ∷ []) (1 ∷ 0 ∷ []) (0 ∷ 0 ∷ 1 ∷ 1 ∷ [])) (accepted (bad_node 3))
    -- a word and pairs offend: the word comes first
    ∷ case (hall 2) (hall_by 0 (1 ∷ 1 ∷ []) (3 ∷ 0 ∷ 2 ∷ 0 ∷ 3 ∷ 0 ∷ 0 ∷ 1 ∷ 0 ∷ 0 ∷ 0 ∷ 0 ∷ 0 ∷ 0 ∷ [])) (accepted (bad_word 1))
    -- another start, number of commands, lag and highest position
    ∷ case (hall 2) (hall_by 1 (1 ∷ 0 ∷ []) (1 ∷ 0 ∷ 2 ∷ 0 ∷ 1 ∷ 0 ∷ 0 ∷ 1 ∷ 0 ∷ 0 ∷ 0 ∷ 0 ∷ 0 ∷ 0 ∷ [])) (refused 21)
    ∷ case (hall 1) (table_from (0 ∷ 1 ∷ 1 ∷ 6 ∷ []) (1 ∷ []) (0 ∷ 0 ∷ 0 ∷ 0 ∷ 1 ∷ 1 ∷ 1 ∷ [])) (refused 21)
    ∷ case (hall 3) hall_less (refused 21)
    ∷ case (guess 0 0) (table_from (0 ∷ 2 ∷ 0 ∷ 2 ∷ []) (1 ∷ []) (1 ∷ 0 ∷ 0 ∷ [])) (refused 21)
    -- 12 before 21
    ∷ case (hall 3) (hall_by 0 (0 ∷ 0 ∷ []) (1 ∷ 0 ∷ 2 ∷ 0 ∷ 1 ∷ 0 ∷ 0 ∷ 1 ∷ 0 ∷ 0 ∷ 0 ∷ 0 ∷ 0 ∷ 0 ∷ [])) (refused 12)
    ∷ []
