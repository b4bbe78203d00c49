-- Posting a closing notice (document 02, W-205): the answer to every two sheets, every notice and every output, what the output holds after
-- it, and what the code's answer means in those terms. Assumes nothing.
use Rattle.std.specs.Prelude.{ℕ, Bool, true, false, List, leb, length}
use Rattle.theory.specs.Answer.{Answer, refused, accepted, check, on_accepted}
use Rattle.theory.specs.Buffer.{over}
use Rattle.theory.specs.Table.{Table}
use Rattle.theory.specs.Closing.{post}
use Rattle.sheet.specs.Bodies.{positions_body, delay_of}
use Rattle.reader.specs.Reading.{read_answer}
use Rattle.sheet.specs.SheetGame.{game_of}
use Rattle.table.specs.TableSheet.{bytes_below, shape_answer, some_flagged}
use Rattle.judge.specs.Judging.{sheets_agree}
use Rattle.writer.specs.SheetBytes.{table_sheet}
use Rattle.notice.specs.declared.posting.Posting.{Posting}
use Rattle.notice.specs.declared.posting.Posting.TheVariants.{Posted, Emptied}

-- the table sheet of a game sheet's game with this table
abbrev pub sheet_with : List ℕ → Table → List ℕ
sheet_with s T = table_sheet (game_of s) (delay_of s) T

-- "9 for an output shorter than the table sheet"
unfoldable pub fitted_answer : List ℕ → Table → ℕ → Answer Table
fitted_answer s T room = check (leb (length (sheet_with s T)) room) 9 (accepted T)

-- "1 to 7, 10, 11, 21, then 23 for a position that doesn't exist, then 9": the table that is left. "Posting reads such sheets, so it does
-- not give 12"
unfoldable pub post_answer : List ℕ → List ℕ → List ℕ → ℕ → Answer Table
post_answer s t ps room =
    on_accepted (read_answer s)
    (λ l.
    on_accepted (shape_answer t)
    (λ x.
    check (sheets_agree s x) 21
    (check (bytes_below (length (positions_body s)) ps) 23 (fitted_answer s (post (game_of s) (delay_of s) ps x.table) room))))

-- the output after it: the sheet, and "the output's bytes beyond the sheet stay untouched"
unfoldable pub output_posted : List ℕ → Answer Table → List ℕ → List ℕ
output_posted s (refused n) buffer = buffer
output_posted s (accepted T) buffer = over (sheet_with s T) buffer

-- whether a first word remains ("If no first word remains, .. the answer says so"), and the sheet's length
pub record Written : Type 0 where
  pub remains : Bool
  pub size : ℕ

unfoldable pub written_of : List ℕ → Answer Table → Answer Written
written_of s a = on_accepted a (λ T. accepted (record { remains = some_flagged T; size = length (sheet_with s T) }))

-- all from the output as it was lent
abbrev pub posting : List ℕ → List ℕ → List ℕ → List ℕ → Answer Table
posting s t ps out = post_answer s t ps (length out)

abbrev pub posted_answer : List ℕ → List ℕ → List ℕ → List ℕ → Answer Written
posted_answer s t ps out = written_of s (posting s t ps out)

abbrev pub posted_output : List ℕ → List ℕ → List ℕ → List ℕ → List ℕ
posted_output s t ps out = output_posted s (posting s t ps out) out

-- the value for every case of the code's posting; `answer_by` has document 01's numbers for a refused one
abbrev pub written_by : Posting → Written
written_by (Posted n) = record { remains = true; size = n }
written_by (Emptied n) = record { remains = false; size = n }
