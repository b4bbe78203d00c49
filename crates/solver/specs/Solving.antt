-- Solving a game sheet: document 01's answer to every list of bytes and every pair of buffers, and what the buffers hold after
-- it. Assumes nothing.
use Rattle.std.specs.Prelude.{ℕ, List, leb, length}
use Rattle.theory.specs.Fold.{both}
use Rattle.theory.specs.Buffer.{over}
use Rattle.theory.specs.Answer.{Answer, refused, accepted, check, on_accepted}
use Rattle.theory.specs.Rounds.{masks, final_ranks}
use Rattle.theory.specs.Delay.{Verdict, wins, losing, arena, answer}
use Rattle.sheet.specs.Bodies.{delay_of}
use Rattle.reader.specs.Reading.{read_answer}
use Rattle.sheet.specs.SheetGame.{game_of}
use Rattle.reader.specs.declared.reading.Layout.{Layout}
use Rattle.solver.specs.declared.solve.Solution.{Solution}
use Rattle.solver.specs.declared.solve.Solution.TheVariants.{Winning, Losing}

-- "winning", or "losing m", with what the accepted reading carried
pub record Solved : Type 0 where
  pub verdict : Verdict
  pub layout : Layout

-- "1 to 7; then 8: the mask area or the rank area has fewer entries than positions × A^L at the asked lag"
unfoldable pub solve_answer : List ℕ → ℕ → ℕ → Answer Solved
solve_answer s masks_room ranks_room =
    let G = game_of s in
    let d = delay_of s in
    on_accepted (read_answer s)
    (λ l.
    check (both (leb (arena G d).nodes masks_room) (leb (arena G d).nodes ranks_room)) 8
    (accepted (record { verdict = answer G d; layout = l })))

-- "the entries for the asked lag (winning) or for m (losing)"
unfoldable pub solved_delay : ℕ → Verdict → ℕ
solved_delay d wins = d
solved_delay d (losing m) = m

-- what the buffers hold after an answer: a refusal "alters no lent area"
unfoldable pub masks_left : List ℕ → Answer Solved → List ℕ → List ℕ
masks_left s (refused n) buffer = buffer
masks_left s (accepted a) buffer = over (masks (arena (game_of s) (solved_delay (delay_of s) a.verdict))) buffer

unfoldable pub ranks_left : List ℕ → Answer Solved → List ℕ → List ℕ
ranks_left s (refused n) buffer = buffer
ranks_left s (accepted a) buffer = over (final_ranks (arena (game_of s) (solved_delay (delay_of s) a.verdict))) buffer

-- the answer, and what each buffer holds after it, from the buffers as they were lent
abbrev pub solving : List ℕ → List ℕ → List ℕ → Answer Solved
solving s masks ranks = solve_answer s (length masks) (length ranks)

abbrev pub masks_solved : List ℕ → List ℕ → List ℕ → List ℕ
masks_solved s masks ranks = masks_left s (solving s masks ranks) masks

abbrev pub ranks_solved : List ℕ → List ℕ → List ℕ → List ℕ
ranks_solved s masks ranks = ranks_left s (solving s masks ranks) ranks

-- document 01's values for every case of the code's solution
abbrev pub solved_by : Solution → Solved
solved_by (Winning l) = record { verdict = wins; layout = l }
solved_by (Losing m l) = record { verdict = losing m; layout = l }
