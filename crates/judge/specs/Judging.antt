-- Judging a table sheet, whoever made it, against a game sheet (document 02, W-202): the answer to every two lists of bytes, and what the
-- code's answer means in those terms. Assumes nothing.
use Rattle.std.specs.Prelude.{ℕ, ◌+◌, Bool, List, eqb, length}
use Rattle.theory.specs.Fold.{both}
use Rattle.theory.specs.Answer.{Answer, accepted, check, on_accepted}
use Rattle.theory.specs.Judging.{Ruling, sound, bad_word, bad_node, ruling}
use Rattle.sheet.specs.Bodies.{positions_body, start_of, action_count, delay_of}
use Rattle.reader.specs.Reading.{read_answer}
use Rattle.sheet.specs.SheetGame.{game_of}
use Rattle.table.specs.TableSheet.{TableSheet, table_answer}
use Rattle.judge.specs.declared.judging.Judgement.{Judgement}
use Rattle.judge.specs.declared.judging.Judgement.TheVariants.{Sound, BadWord, BadNode}

-- passes where 21 does not refuse: "21 where the sheets differ in start, commands, lag or highest position"
unfoldable pub sheets_agree : List ℕ → TableSheet → Bool
sheets_agree s x =
    both (eqb x.start (start_of s))
    (both (eqb x.actions (action_count s)) (both (eqb x.delay (delay_of s)) (eqb (x.highest + 1) (length (positions_body s)))))

-- "1 to 7, then 10 to 12, then 21"; then the ruling
unfoldable pub judge_answer : List ℕ → List ℕ → Answer Ruling
judge_answer s t =
    on_accepted (read_answer s)
    (λ l. on_accepted (table_answer t) (λ x. check (sheets_agree s x) 21 (accepted (ruling (game_of s) (delay_of s) x.table))))

-- the value for every case of the code's judgement; `answer_by` has document 01's numbers for a refused one
abbrev pub ruling_of : Judgement → Ruling
ruling_of Sound = sound
ruling_of (BadWord v) = bad_word v
ruling_of (BadNode k) = bad_node k
