-- The game that a game sheet means, read off its bytes alone. Assumes nothing.
use Rattle.std.specs.Prelude.{ℕ, zero, suc, ◌+◌, ◌*◌, ◌/◌, Bool, cond, List, [], ◌∷◌, eqb, length, get_or}
use Rattle.theory.specs.Fold.{both}
use Rattle.theory.specs.Game.{Target, absent, to, Game}
use Rattle.theory.specs.Holding.{completed}
use Rattle.sheet.specs.Kinds.{controller_at, safe_at}
use Rattle.sheet.specs.Bodies.{positions_body, targets_body, moves_body, is_holding, start_of, action_count}

-- line k of the C body is about position q and action x
unfoldable pub is_line : List ℕ → ℕ → ℕ → ℕ → Bool
is_line c q x k = both (eqb (get_or c (3 * k) 0) q) (eqb (get_or c (3 * k + 1) 0) x)

-- where action x leads from position q by the first n lines of the C body: "from, command, to". Keys rise, so one line at most fits
unfoldable pub target_in : List ℕ → ℕ → ℕ → ℕ → Target
target_in c q x zero = absent
target_in c q x (suc n) = cond (is_line c q x n) (to (get_or c (3 * n + 2) 0)) (target_in c q x n)

-- where the environment can move from position q by the n lines of the U body from line i, in their order: "from, to"
unfoldable pub moves_in : List ℕ → ℕ → ℕ → ℕ → List ℕ
moves_in u q i zero = []
moves_in u q i (suc n) =
    cond (eqb (get_or u (2 * i) 0) q) (get_or u (2 * i + 1) 0 ∷ moves_in u q (suc i) n) (moves_in u q (suc i) n)

-- what a whole C or U body says of a position
unfoldable pub target_of : List ℕ → ℕ → ℕ → Target
target_of c q x = target_in c q x (length c / 3)

unfoldable pub moves_of : List ℕ → ℕ → List ℕ
moves_of u q = moves_in u q 0 (length u / 2)

-- the positions of a P body with these targets and moves
abbrev pub game_by : List ℕ → ℕ → ℕ → (ℕ → ℕ → Target) → (ℕ → List ℕ) → Game
game_by p start actions target moves =
    record {
      positions = length p;
      start = start;
      actions = actions;
      controller = controller_at p;
      safe = safe_at p;
      target = target;
      moves = moves;
    }

-- the game of document 01's "The yard and its play" that the lines of a game sheet describe, as they are written
abbrev pub written_game : List ℕ → Game
written_game s = game_by (positions_body s) (start_of s) (action_count s) (target_of (targets_body s)) (moves_of (moves_body s))

-- the game that a game sheet means: where its gates hold "that completed yard", else the written one
unfoldable pub game_of : List ℕ → Game
game_of s = completed (is_holding s) (written_game s)
