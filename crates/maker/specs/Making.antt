-- Making a sheet: document 01's winning and losing sheets, its answer to every list of bytes and all buffers, and what the buffers
-- hold after it. Assumes nothing.
use Rattle.std.specs.Prelude.{ℕ, ◌+◌, ◌*◌, List, leb, length}
use Rattle.theory.specs.Answer.{Answer, refused, accepted, check, on_accepted}
use Rattle.theory.specs.Buffer.{over}
use Rattle.theory.specs.Game.{Game}
use Rattle.theory.specs.Rounds.{final_ranks}
use Rattle.theory.specs.Delay.{Verdict, wins, losing, initial_words, arena}
use Rattle.theory.specs.Table.{ours}
use Rattle.theory.specs.Reach.{reached}
use Rattle.sheet.specs.Bodies.{delay_of}
use Rattle.sheet.specs.SheetGame.{game_of}
use Rattle.solver.specs.Solving.{solve_answer, masks_solved, ranks_solved}
use Rattle.writer.specs.SheetBytes.{table_sheet, rank_sheet}
use Rattle.maker.specs.declared.making.Making.{Making}
use Rattle.maker.specs.declared.making.Making.TheVariants.{Winning, Losing}

-- the winning sheet: the game's own table
unfoldable pub table_sheet_of : Game → ℕ → List ℕ
table_sheet_of G d = table_sheet G d (ours G d)

-- the losing sheet: the final ranks, "with m as its lag"
unfoldable pub rank_sheet_of : Game → ℕ → List ℕ
rank_sheet_of G m = rank_sheet G m (final_ranks (arena G m))

-- the sheet made, with m where the game is losing
pub data Made : Type 0 where
  won : List ℕ → Made
  lost : ℕ → List ℕ → Made

unfoldable pub made_of : Game → ℕ → Verdict → Made
made_of G d wins = won (table_sheet_of G d)
made_of G d (losing m) = lost m (rank_sheet_of G m)

-- "19 + number of first words + 2 × pairs, all at the asked lag"
unfoldable pub output_size : Game → ℕ → ℕ
output_size G d = 19 + initial_words G d + 2 * (arena G d).nodes

-- "Making a sheet. 1 to 8; then 9: the output area is shorter"
unfoldable pub make_answer : List ℕ → ℕ → ℕ → ℕ → Answer Made
make_answer s masks_room ranks_room output_room =
    let G = game_of s in
    let d = delay_of s in
    on_accepted (solve_answer s masks_room ranks_room)
    (λ a. check (leb (output_size G d) output_room) 9 (accepted (made_of G d a.verdict)))

-- a buffer after making: "the areas as in solving" where it was accepted; a refusal "alters no lent area"
unfoldable pub if_made : Answer Made → List ℕ → List ℕ → List ℕ
if_made (refused n) before solved = before
if_made (accepted x) before solved = solved

-- the output after making: the sheet, "bytes beyond untouched"
unfoldable pub output_after : Answer Made → List ℕ → List ℕ
output_after (refused n) buffer = buffer
output_after (accepted (won t)) buffer = over t buffer
output_after (accepted (lost m t)) buffer = over t buffer

-- the answer, and what each buffer holds after it, from the buffers as they were lent
abbrev pub making : List ℕ → List ℕ → List ℕ → List ℕ → Answer Made
making s masks ranks out = make_answer s (length masks) (length ranks) (length out)

abbrev pub masks_made : List ℕ → List ℕ → List ℕ → List ℕ → List ℕ
masks_made s masks ranks out = if_made (making s masks ranks out) masks (masks_solved s masks ranks)

abbrev pub ranks_made : List ℕ → List ℕ → List ℕ → List ℕ → List ℕ
ranks_made s masks ranks out = if_made (making s masks ranks out) ranks (ranks_solved s masks ranks)

abbrev pub output_made : List ℕ → List ℕ → List ℕ → List ℕ → List ℕ
output_made s masks ranks out = output_after (making s masks ranks out) out

-- the verdict, the made sheet's length, and the number of reached positions: "Solving and making hand it on in every accepted answer"
pub record Measured : Type 0 where
  pub verdict : Verdict
  pub size : ℕ
  pub reached : ℕ

unfoldable pub measure_of : ℕ → Made → Measured
measure_of k (won t) = record { verdict = wins; size = length t; reached = k }
measure_of k (lost m t) = record { verdict = losing m; size = length t; reached = k }

unfoldable pub measured : ℕ → Answer Made → Answer Measured
measured k a = on_accepted a (λ x. accepted (measure_of k x))

-- what making answers, from the buffers as they were lent
abbrev pub made_answer : List ℕ → List ℕ → List ℕ → List ℕ → Answer Measured
made_answer s masks ranks out = measured (reached (game_of s)) (making s masks ranks out)

-- document 01's values for every case of what the code made
abbrev pub measured_by : Making → Measured
measured_by (Winning n k) = record { verdict = wins; size = n; reached = k }
measured_by (Losing m n k) = record { verdict = losing m; size = n; reached = k }
