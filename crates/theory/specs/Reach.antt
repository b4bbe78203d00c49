-- "The number of positions that lie on some play from the start, the start included, safe or not and whichever commands are played".
-- Assumes nothing.
use Rattle.std.specs.Prelude.{ℕ, zero, suc, ◌≡◌, Bool, false, List, eqb, get_or}
use Rattle.theory.specs.Fold.{both, either, any_below, any_of, tabulate, count}
use Rattle.theory.specs.Game.{Target, absent, to, Game}
use Rattle.theory.specs.Play.{Play, IsPlay, last}

-- "lie on some play from the start": a finite play of Definition 2 ends in q
pub record OnPlay (G : Game) (q : ℕ) : Type 0 where
  pub play : Play
  pub is_play : IsPlay G play
  pub ends : last G play ≡ q

-- one move of either side leads from p to q
unfoldable pub is_target : ℕ → Target → Bool
is_target q absent = false
is_target q (to r) = eqb q r

unfoldable pub leads : Game → ℕ → ℕ → Bool
leads G p q = either (any_below (λ c. is_target q (G.target p c)) G.actions) (any_of (eqb q) (G.moves p))

-- q has a mark, or one move leads to it from a position with a mark
unfoldable pub mark_in : Game → List Bool → ℕ → Bool
mark_in G marks q = either (get_or marks q false) (any_below (λ p. both (get_or marks p false) (leads G p q)) G.positions)

-- the marks after n rounds: at first the start has one
unfoldable pub marks_after : Game → ℕ → List Bool
marks_after G zero = tabulate (eqb G.start) 0 G.positions
marks_after G (suc n) = tabulate (mark_in G (marks_after G n)) 0 G.positions

-- how many have a mark after as many rounds as there are positions
unfoldable pub reached : Game → ℕ
reached G = let marks = marks_after G G.positions in count (λ q. get_or marks q false) G.positions
