-- Document 01's starred cases ("Yards to try"), of solving and of the cabin, and cases of our own for the cabin that catch what those
-- leave: one table, over bytes. Cases of our own for the rounds are in theory/specs/cases/Games.antt. Assumes nothing.
use Rattle.std.specs.Prelude.{ℕ, suc, ◌-◌, List, [], ◌∷◌, ◌++◌, length, get_or, replicate}
use Rattle.theory.specs.Fold.{tabulate}
use Rattle.theory.specs.Answer.{Answer, accepted, on_accepted}
use Rattle.theory.specs.Game.{Game}
use Rattle.theory.specs.Play.{Play, last, index, back, Rule}
use Rattle.theory.specs.Exact.{play_of}
use Rattle.theory.specs.cases.Games.{GameResult, wins_by, loses_at, result_by}
use Rattle.sheet.specs.Limits.{most_nodes}
use Rattle.sheet.specs.Bodies.{delay_of}
use Rattle.sheet.specs.SheetGame.{game_of}
use Rattle.reader.specs.cases.Yards.{sheet_with, guess, split_gate, loop, hall}
use Rattle.solver.specs.Solving.{solve_answer}
use Rattle.table.specs.TableSheet.{decode}
use Rattle.maker.specs.Making.{Made, won, lost, make_answer}
use Rattle.controller.specs.Accuracy.{Call, observe, observe_all, act, Response, accepts, acts, refuses, refuses_at}
use Rattle.controller.specs.Accuracy.{Progress, begun, reply, call_step, exact_play}
use Rattle.controller.specs.declared.calls.Observation.{Observation}

-- the yard's rule that takes the last of the moves
unfoldable pub last_move : Game → Rule
last_move G π = get_or (G.moves (last G π)) (length (G.moves (last G π)) - 1) 0

-- the positions of a play, newest first
unfoldable pub positions_of : Game → Play → List ℕ
positions_of G π = tabulate (λ k. last G (back k π)) 0 (suc (index π))

-- what the calls answer
unfoldable pub replies_to : List ℕ → Progress → List Call → List Response
replies_to t s [] = []
replies_to t s (c ∷ later) = (reply t s.state c).response ∷ replies_to t (call_step t s c) later

-- of a game sheet: the solver's result; what a list of calls answers over the made sheet; the exact play of so many turns
-- against the last moves
pub data Case : Type 0 where
  solves : List ℕ → GameResult → Case
  answers : List ℕ → List Call → List Response → Case
  plays : List ℕ → ℕ → List ℕ → Case

abbrev output_room : ℕ
output_room = 40000

unfoldable pub answers_by : List ℕ → List Call → Made → Case
answers_by s calls (won t) = answers s calls (replies_to t begun calls)
answers_by s calls (lost m t) = answers s calls []

unfoldable pub plays_by : List ℕ → ℕ → Made → Case
plays_by s n (won t) = plays s n (positions_of (game_of s) (play_of (exact_play (game_of s) (decode t) (last_move (game_of s)) n)))
plays_by s n (lost m t) = plays s n []

-- the case with what the definitions give
unfoldable pub computed : Case → Answer Case
computed (solves s r) =
    on_accepted (solve_answer s most_nodes most_nodes)
    (λ a. accepted (solves s (result_by (game_of s) (delay_of s) a.verdict)))
computed (answers s calls r) = on_accepted (make_answer s most_nodes most_nodes output_room) (λ m. accepted (answers_by s calls m))
computed (plays s n r) = on_accepted (make_answer s most_nodes most_nodes output_room) (λ m. accepted (plays_by s n m))

-- of our own: an action must not be the one before it. So the word matters, and its order
unfoldable pub alternating : ℕ → List ℕ
alternating d =
    sheet_with (0 ∷ 2 ∷ d ∷ []) (0 ∷ 0 ∷ 0 ∷ 2 ∷ 2 ∷ []) (0 ∷ 0 ∷ 3 ∷ 0 ∷ 1 ∷ 4 ∷ 1 ∷ 1 ∷ 4 ∷ 2 ∷ 0 ∷ 3 ∷ []) (3 ∷ 1 ∷ 4 ∷ 2 ∷ [])

-- every starred case
unfoldable pub starred : List Case
starred =
    solves (guess 0 0) (wins_by (1 ∷ []) (1 ∷ 2 ∷ 0 ∷ 0 ∷ []))
    ∷ solves (guess 0 2) (loses_at 1 (0 ∷ 0 ∷ 2 ∷ 1 ∷ []))
    ∷ solves (guess 1 1) (loses_at 0 (1 ∷ 2 ∷ 0 ∷ 0 ∷ []))
    ∷ solves (split_gate 1) (loses_at 1 (0 ∷ 0 ∷ 2 ∷ []))
    ∷ solves (loop 6) (wins_by (1 ∷ []) (1 ∷ 0 ∷ []))
    ∷ solves (loop 5) (wins_by (1 ∷ []) (0 ∷ 1 ∷ []))
    ∷ solves (hall 2) (wins_by (1 ∷ 1 ∷ []) (1 ∷ 1 ∷ 2 ∷ 2 ∷ 3 ∷ 0 ∷ 0 ∷ 3 ∷ 0 ∷ 0 ∷ 0 ∷ 0 ∷ 0 ∷ 0 ∷ []))
    ∷ solves (hall 3) (loses_at 3 (0 ∷ 0 ∷ 0 ∷ 0 ∷ 0 ∷ 0 ∷ 0 ∷ 0 ∷ 4 ∷ 2 ∷ 2 ∷ 4 ∷ 3 ∷ 3 ∷ []))
    ∷ answers (hall 2) (act ∷ act ∷ observe 0 0 ∷ act ∷ observe 5 0 ∷ observe 1 4 ∷ [])
    (acts 0 ∷ refuses 13 ∷ accepts ∷ acts 0 ∷ refuses 18 ∷ refuses 17 ∷ [])
    ∷ []

-- cases of our own for the cabin. The first: a freshest report that has a say, and a window shifted by three; the exact play: a freshest
-- position; the last two: a window or a word of the wrong length or order, at early turns too, 16, 19 and a repeat
unfoldable pub controller_cases : List Case
controller_cases =
    answers (hall 2) (act ∷ observe 0 0 ∷ act ∷ observe 4 1 ∷ act ∷ observe 2 2 ∷ act ∷ act ∷ act ∷ [])
    (acts 0 ∷ accepts ∷ acts 0 ∷ accepts ∷ refuses 13 ∷ accepts ∷ acts 0 ∷ acts 1 ∷ refuses 13 ∷ [])
    ∷ plays (hall 2) 5 (3 ∷ 5 ∷ 1 ∷ 6 ∷ 3 ∷ 5 ∷ 1 ∷ 6 ∷ 2 ∷ 4 ∷ 0 ∷ [])
    ∷ answers (alternating 4)
    (observe 0 0 ∷ observe 1 0 ∷ act ∷ observe 0 1 ∷ observe 0 5 ∷ observe 0 0 ∷ observe 2 1 ∷ act ∷ act ∷ act
    ∷ observe 1 3 ∷ observe 4 2 ∷ act ∷ act ∷ [])
    (accepts ∷ refuses 18 ∷ acts 0 ∷ refuses 19 ∷ refuses 16 ∷ accepts ∷ accepts ∷ acts 1 ∷ acts 0 ∷ acts 1
    ∷ refuses 17 ∷ accepts ∷ acts 0 ∷ refuses 13 ∷ [])
    ∷ plays (alternating 4) 4 (2 ∷ 4 ∷ 1 ∷ 3 ∷ 2 ∷ 4 ∷ 1 ∷ 3 ∷ 0 ∷ [])
    ∷ []

-- the record of a report
abbrev report : ℕ → ℕ → Observation
report k p = record { index = k; position = p }

-- cases of our own for packets: an empty one; records that overtake and repeat; 17, 19 and 16 at their places, with nothing heard of the
-- records before (index 4 would say 3); 17 records and 16; and the commands as without packets
unfoldable pub packet_cases : List Case
packet_cases =
    answers (hall 2)
    (observe_all [] ∷ act ∷ observe_all (report 2 2 ∷ report 0 0 ∷ report 2 2 ∷ []) ∷ act ∷ observe_all (report 4 3 ∷ report 1 4 ∷ [])
    ∷ observe_all (report 4 1 ∷ report 4 3 ∷ []) ∷ observe_all (replicate 17 (report 4 1)) ∷ observe_all (replicate 16 (report 4 1))
    ∷ observe_all (report 4 7 ∷ []) ∷ act ∷ act ∷ act ∷ [])
    (accepts ∷ acts 0 ∷ accepts ∷ acts 0 ∷ refuses_at 17 1 ∷ refuses_at 19 1 ∷ refuses 22 ∷ accepts ∷ refuses_at 16 0
    ∷ acts 0 ∷ acts 1 ∷ refuses 13 ∷ [])
    ∷ []

abbrev pub cases : List Case
cases = starred ++ (controller_cases ++ packet_cases)

-- the hall's made sheet at delay 2
unfoldable pub hall_table : List ℕ
hall_table =
    83 ∷ 15 ∷ 0 ∷ 4 ∷ 0 ∷ 87 ∷ 19 ∷ 0 ∷ 2 ∷ 0 ∷ 84 ∷ 21 ∷ 0 ∷ 14 ∷ 0
    ∷ 0 ∷ 2 ∷ 2 ∷ 6
    ∷ 1 ∷ 1
    ∷ 1 ∷ 1 ∷ 2 ∷ 2 ∷ 3 ∷ 0 ∷ 0 ∷ 3 ∷ 0 ∷ 0 ∷ 0 ∷ 0 ∷ 0 ∷ 0 ∷ []

-- calls to it: true reports, a repeat, false reports of indices out of the window, and refused calls; a packet that is accepted, and one
-- that is refused for its second record
unfoldable pub hall_calls : List Call
hall_calls =
    act ∷ observe 0 0 ∷ observe 0 0 ∷ act ∷ observe 4 1 ∷ act ∷ observe 2 2 ∷ observe 5 0 ∷ observe 1 6
    ∷ observe 3 6 ∷ act ∷ act ∷ act ∷ observe_all (report 8 1 ∷ report 6 3 ∷ report 6 3 ∷ [])
    ∷ observe_all (report 7 6 ∷ report 2 5 ∷ []) ∷ act ∷ []
