-- Games of our own with their results, which catch wrong rounds that document 01's starred yards let pass (those are in
-- claims/specs/cases/Starred.antt, over bytes). Games are written as P, C and U bodies. Assumes nothing.
use Rattle.std.specs.Prelude.{ℕ, ◌%◌, cond, List, [], ◌∷◌, eqb, ltb, length, get_or}
use Rattle.theory.specs.Fold.{both}
use Rattle.theory.specs.Game.{Target, absent, to, Game}
use Rattle.theory.specs.Rounds.{final_ranks, masks}
use Rattle.theory.specs.Delay.{arena, flags, Verdict, wins, losing, answer}

-- "from, command, to"
unfoldable pub target_from : List ℕ → ℕ → ℕ → Target
target_from [] p c = absent
target_from (f ∷ []) p c = absent
target_from (f ∷ x ∷ []) p c = absent
target_from (f ∷ x ∷ t ∷ lines) p c = cond (both (eqb f p) (eqb x c)) (to t) (target_from lines p c)

-- "from, to"
unfoldable pub moves_from : List ℕ → ℕ → List ℕ
moves_from [] p = []
moves_from (f ∷ []) p = []
moves_from (f ∷ t ∷ lines) p = cond (eqb f p) (t ∷ moves_from lines p) (moves_from lines p)

-- a game that starts at 0: A and the bodies
unfoldable pub game_from : ℕ → List ℕ → List ℕ → List ℕ → Game
game_from actions p c u =
    record {
      positions = length p;
      start = 0;
      actions = actions;
      controller = λ q. ltb (get_or p q 0) 2;
      safe = λ q. eqb (get_or p q 0 % 2) 0;
      target = target_from c;
      moves = moves_from u;
    }

-- winning: the first words' flags and the masks; losing m: the ranks at m
pub data GameResult : Type 0 where
  wins_by : List ℕ → List ℕ → GameResult
  loses_at : ℕ → List ℕ → GameResult

unfoldable pub result_by : Game → ℕ → Verdict → GameResult
result_by G d wins = wins_by (flags G d) (masks (arena G d))
result_by G d (losing m) = loses_at m (final_ranks (arena G m))

unfoldable pub result_of : Game → ℕ → GameResult
result_of G d = result_by G d (answer G d)

pub record Case : Type 0 where
  pub game : Game
  pub delay : ℕ
  pub result : GameResult

abbrev pub case : Game → ℕ → GameResult → Case
case G d r = record { game = G; delay = d; result = r }

-- an unsafe own position is passed at odd delays; of two or four first words one is good
unfoldable pub passing : Game
passing = game_from 2 (0 ∷ 1 ∷ 2 ∷ 2 ∷ []) (0 ∷ 0 ∷ 2 ∷ 0 ∷ 1 ∷ 3 ∷ 1 ∷ 1 ∷ 2 ∷ []) (2 ∷ 0 ∷ 3 ∷ 1 ∷ [])

-- at delay 2 the good action is permitted where it is played and not where it is chosen
unfoldable pub chosen : Game
chosen = game_from 2 (0 ∷ 0 ∷ 2 ∷ 2 ∷ 3 ∷ []) (0 ∷ 0 ∷ 2 ∷ 0 ∷ 1 ∷ 3 ∷ 1 ∷ 0 ∷ 4 ∷ []) (2 ∷ 1 ∷ 3 ∷ 0 ∷ 4 ∷ 0 ∷ [])

-- four rounds without an unsafe position, ranks against the order of the nodes
unfoldable pub slow : Game
slow = game_from 2 (0 ∷ 0 ∷ 0 ∷ 2 ∷ 2 ∷ []) (0 ∷ 1 ∷ 3 ∷ 1 ∷ 0 ∷ 4 ∷ 2 ∷ 0 ∷ 4 ∷ 2 ∷ 1 ∷ 4 ∷ []) (3 ∷ 1 ∷ 4 ∷ 0 ∷ 4 ∷ 2 ∷ [])

-- a node falls by one that falls in the round before and has a lower number
unfoldable pub chained : Game
chained = game_from 2 (0 ∷ 0 ∷ 2 ∷ 3 ∷ []) (0 ∷ 1 ∷ 3 ∷ 1 ∷ 0 ∷ 2 ∷ 1 ∷ 1 ∷ 2 ∷ []) (2 ∷ 0 ∷ 2 ∷ 1 ∷ 3 ∷ 1 ∷ [])

-- the same at delay 1, by an unsafe own position
unfoldable pub turned : Game
turned = game_from 2 (0 ∷ 0 ∷ 1 ∷ 2 ∷ 2 ∷ []) (0 ∷ 0 ∷ 4 ∷ 1 ∷ 0 ∷ 3 ∷ 1 ∷ 1 ∷ 4 ∷ 2 ∷ 0 ∷ 3 ∷ []) (3 ∷ 2 ∷ 4 ∷ 0 ∷ 4 ∷ 1 ∷ [])

-- what each catches: `passing` at 3 a safety test left out on the own position passed and first words of the wrong length, and beside 2
-- and 4 a delay taken for its neighbour; `chosen` an action tested where it is chosen; `slow`, `chained` and `turned` nodes removed only
-- once and ranks that follow the order of visiting, `chained` at 1 the asked delay named in the place of the least
unfoldable pub cases : List Case
cases =
    (case passing 2 (wins_by (1 ∷ 0 ∷ []) (1 ∷ 0 ∷ 0 ∷ 0 ∷ 0 ∷ 0 ∷ 0 ∷ 0 ∷ [])))
    ∷ (case passing 3 (wins_by (1 ∷ 0 ∷ 0 ∷ 0 ∷ []) (0 ∷ 0 ∷ 0 ∷ 0 ∷ 1 ∷ 0 ∷ 0 ∷ 0 ∷ [])))
    ∷ (case passing 4 (wins_by (1 ∷ 0 ∷ 0 ∷ 0 ∷ []) (1 ∷ 0 ∷ 0 ∷ 0 ∷ 0 ∷ 0 ∷ 0 ∷ 0 ∷ 0 ∷ 0 ∷ 0 ∷ 0 ∷ 0 ∷ 0 ∷ 0 ∷ 0 ∷ [])))
    ∷ (case chosen 2 (wins_by (0 ∷ 1 ∷ []) (0 ∷ 2 ∷ 0 ∷ 0 ∷ 0 ∷ 0 ∷ 0 ∷ 0 ∷ 0 ∷ 0 ∷ [])))
    ∷ (case slow 3 (loses_at 3 (0 ∷ 0 ∷ 0 ∷ 0 ∷ 0 ∷ 0 ∷ 4 ∷ 2 ∷ 2 ∷ 3 ∷ [])))
    ∷ (case chained 0 (loses_at 0 (2 ∷ 3 ∷ 0 ∷ 0 ∷ [])))
    ∷ (case chained 1 (loses_at 0 (2 ∷ 3 ∷ 0 ∷ 0 ∷ [])))
    ∷ (case turned 1 (loses_at 1 (0 ∷ 0 ∷ 0 ∷ 2 ∷ 3 ∷ [])))
    ∷ []

-- W-201's yard: the guess yard with "its moves 0 1 3 and 2 1 left out"
unfoldable pub cut : Game
cut = game_from 2 (0 ∷ 0 ∷ 2 ∷ 3 ∷ []) (0 ∷ 0 ∷ 2 ∷ 1 ∷ 0 ∷ 3 ∷ 1 ∷ 1 ∷ 2 ∷ []) (2 ∷ 0 ∷ 3 ∷ 0 ∷ [])

-- how many positions lie on plays: in `passing` the last action alone leads on to 1, and in `slow` the last is four moves away
unfoldable pub reached_games : List Game
reached_games = passing ∷ slow ∷ cut ∷ []

unfoldable pub reached_numbers : List ℕ
reached_numbers = 4 ∷ 5 ∷ 2 ∷ []
