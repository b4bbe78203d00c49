-- The split gate with a G body: what solving says of it, and calls to its cabin where the gates hold. Assumes nothing.
use Rattle.std.specs.Prelude.{ℕ, List, [], ◌∷◌, get_or}
use Rattle.theory.specs.Game.{Game}
use Rattle.theory.specs.Play.{last, Rule}
use Rattle.theory.specs.Delay.{wins, losing}
use Rattle.reader.specs.cases.Yards.{gated_with, gated_split, split_gate}
use Rattle.solver.specs.cases.Solving.{Case, solved, unsolved}
use Rattle.controller.specs.Accuracy.{Call, observe, act, Response, accepts, acts, refuses}

-- "The split gate at lag 1 is winning with holding gates"
unfoldable pub held_gate : List ℕ
held_gate = gated_split (1 ∷ []) 1

unfoldable pub gate_cases : List Case
gate_cases =
    solved held_gate wins (0 ∷ 0 ∷ 2 ∷ []) (0 ∷ 0 ∷ 0 ∷ [])
    -- G of 0, and none: "losing 1, rank 2 at position 2"
    ∷ solved (gated_split (0 ∷ []) 1) (losing 1) (0 ∷ 0 ∷ 0 ∷ []) (0 ∷ 0 ∷ 2 ∷ [])
    ∷ solved (split_gate 1) (losing 1) (0 ∷ 0 ∷ 0 ∷ []) (0 ∷ 0 ∷ 2 ∷ [])
    -- 24: another byte, two bytes, none
    ∷ unsolved (gated_split (2 ∷ []) 1) 3 3 24
    ∷ unsolved (gated_split (1 ∷ 1 ∷ []) 1) 3 3 24
    ∷ unsolved (gated_split [] 1) 3 3 24
    -- 5 before 24 before 6: lines of U that fall, with G of 2; a position without a move, with G of 2 and of 1
    ∷ unsolved (gated_with (0 ∷ 2 ∷ 1 ∷ []) (0 ∷ 0 ∷ 2 ∷ []) (0 ∷ 0 ∷ 2 ∷ 1 ∷ 1 ∷ 2 ∷ []) (2 ∷ 1 ∷ 2 ∷ 0 ∷ []) (2 ∷ [])) 3 3 5
    ∷ unsolved (gated_with (0 ∷ 2 ∷ 1 ∷ []) (0 ∷ 0 ∷ 2 ∷ []) (0 ∷ 0 ∷ 2 ∷ []) (2 ∷ 0 ∷ 2 ∷ 1 ∷ []) (2 ∷ [])) 3 3 24
    ∷ unsolved (gated_with (0 ∷ 2 ∷ 1 ∷ []) (0 ∷ 0 ∷ 2 ∷ []) (0 ∷ 0 ∷ 2 ∷ []) (2 ∷ 0 ∷ 2 ∷ 1 ∷ []) (1 ∷ [])) 3 3 6
    ∷ []

-- its table: both first words, and command 1 at position 2
unfoldable pub gate_table : List ℕ
gate_table =
    83 ∷ 15 ∷ 0 ∷ 4 ∷ 0 ∷ 87 ∷ 19 ∷ 0 ∷ 2 ∷ 0 ∷ 84 ∷ 21 ∷ 0 ∷ 3 ∷ 0
    ∷ 0 ∷ 2 ∷ 1 ∷ 2
    ∷ 1 ∷ 1
    ∷ 0 ∷ 0 ∷ 2 ∷ []

-- the yard's rule that takes the first of the moves: here always to position 0, where command 1 is missing
unfoldable pub first_move : Game → Rule
first_move G π = get_or (G.moves (last G π)) 0 0

unfoldable pub gate_calls : List Call
gate_calls = act ∷ act ∷ observe 1 2 ∷ act ∷ observe 4 0 ∷ act ∷ observe 3 2 ∷ act ∷ []

unfoldable pub gate_replies : List Response
gate_replies = acts 0 ∷ refuses 13 ∷ accepts ∷ acts 1 ∷ accepts ∷ refuses 13 ∷ accepts ∷ acts 1 ∷ []
