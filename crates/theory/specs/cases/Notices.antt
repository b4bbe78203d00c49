-- Notices of our own, each with the table posted on and what it leaves, which catch wrong closing. Assumes nothing.
use Rattle.std.specs.Prelude.{ℕ, List, [], ◌∷◌}
use Rattle.theory.specs.Game.{Game}
use Rattle.theory.specs.Table.{Table}
use Rattle.theory.specs.cases.Games.{game_from, passing}

-- either action leads to position 1, by 2 or by 3, and never back to the start
unfoldable pub forked : Game
forked = game_from 2 (0 ∷ 0 ∷ 2 ∷ 2 ∷ []) (0 ∷ 0 ∷ 2 ∷ 0 ∷ 1 ∷ 3 ∷ 1 ∷ 0 ∷ 2 ∷ 1 ∷ 1 ∷ 3 ∷ []) (2 ∷ 1 ∷ 3 ∷ 1 ∷ [])

pub record Notice : Type 0 where
  pub game : Game
  pub delay : ℕ
  pub closed : List ℕ
  pub table : Table
  pub left : Table

-- the flags and masks posted on, and those left
abbrev pub notice : Game → ℕ → List ℕ → List ℕ → List ℕ → List ℕ → List ℕ → Notice
notice G d ps flags masks flags' masks' =
    record {
      game = G;
      delay = d;
      closed = ps;
      table = record { flags = flags; masks = masks };
      left = record { flags = flags'; masks = masks' };
    }

-- an empty notice on our own table, and on one with a wrong word, a spoilt action and a mask at an unsafe position; one that empties a
-- table; one that leaves something; a shut start at an odd delay, where no word is good though all pairs stay, and at an even one; a word
-- that is good but was not flagged; a table that keeps less than ours, so that less is left
unfoldable pub notices : List Notice
notices =
    notice passing 2 [] (1 ∷ 0 ∷ []) (1 ∷ 0 ∷ 0 ∷ 0 ∷ 0 ∷ 0 ∷ 0 ∷ 0 ∷ []) (1 ∷ 0 ∷ []) (1 ∷ 0 ∷ 0 ∷ 0 ∷ 0 ∷ 0 ∷ 0 ∷ 0 ∷ [])
    ∷ notice passing 2 [] (1 ∷ 1 ∷ []) (3 ∷ 0 ∷ 0 ∷ 1 ∷ 0 ∷ 0 ∷ 0 ∷ 0 ∷ []) (1 ∷ 0 ∷ []) (1 ∷ 0 ∷ 0 ∷ 0 ∷ 0 ∷ 0 ∷ 0 ∷ 0 ∷ [])
    ∷ notice passing 2 (2 ∷ []) (1 ∷ 0 ∷ []) (1 ∷ 0 ∷ 0 ∷ 0 ∷ 0 ∷ 0 ∷ 0 ∷ 0 ∷ []) (0 ∷ 0 ∷ []) (0 ∷ 0 ∷ 0 ∷ 0 ∷ 0 ∷ 0 ∷ 0 ∷ 0 ∷ [])
    ∷ notice forked 1 (3 ∷ []) (1 ∷ 1 ∷ []) (0 ∷ 0 ∷ 3 ∷ 3 ∷ []) (1 ∷ 0 ∷ []) (0 ∷ 0 ∷ 1 ∷ 0 ∷ [])
    ∷ notice forked 1 (0 ∷ []) (1 ∷ 1 ∷ []) (0 ∷ 0 ∷ 3 ∷ 3 ∷ []) (0 ∷ 0 ∷ []) (0 ∷ 0 ∷ 3 ∷ 3 ∷ [])
    ∷ notice forked 2 (0 ∷ []) (1 ∷ 1 ∷ []) (3 ∷ 3 ∷ 3 ∷ 3 ∷ 0 ∷ 0 ∷ 0 ∷ 0 ∷ []) (0 ∷ 0 ∷ []) (0 ∷ 0 ∷ 3 ∷ 3 ∷ 0 ∷ 0 ∷ 0 ∷ 0 ∷ [])
    ∷ notice forked 0 (3 ∷ []) (0 ∷ []) (3 ∷ 3 ∷ 0 ∷ 0 ∷ []) (0 ∷ []) (1 ∷ 1 ∷ 0 ∷ 0 ∷ [])
    ∷ notice forked 0 (3 ∷ []) (1 ∷ []) (3 ∷ 2 ∷ 0 ∷ 0 ∷ []) (0 ∷ []) (0 ∷ 0 ∷ 0 ∷ 0 ∷ [])
    ∷ []
