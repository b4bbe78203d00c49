-- Definition 2's infinite plays and Definition 5's outcomes among them, to tie the finite reading of specs/Strategy.antt to the
-- paper's words. Assumes nothing.
use Rattle.std.specs.Prelude.{ℕ, zero, suc, ◌*◌, ◌≡◌, true}
use mathlib.Core.List.{Memᴰ}
use Rattle.theory.specs.Game.{Game, to}
use Rattle.theory.specs.Play.{Play, origin, act, move, Rule}
use Rattle.theory.specs.Strategy.{Strategy, choice}

-- position n is at index n; action i is the one of turn i, the label of the move from index 2i
pub record Infinite : Type 0 where
  pub position : ℕ → ℕ
  pub action : ℕ → ℕ

-- the prefix up to index 2i
unfoldable pub up_to : Infinite → ℕ → Play
up_to π zero = origin
up_to π (suc i) = move (act (up_to π i) (π.action i) (π.position (suc (2 * i)))) (π.position (2 * suc i))

-- the prefix up to index 2i + 1
abbrev pub acted_at : Infinite → ℕ → Play
acted_at π i = act (up_to π i) (π.action i) (π.position (suc (2 * i)))

-- Definition 2
pub record IsInfinite (G : Game) (π : Infinite) : Type 0 where
  pub starts : π.position 0 ≡ G.start
  pub acts : (i : ℕ) → G.target (π.position (2 * i)) (π.action i) ≡ to (π.position (suc (2 * i)))
  pub moves : (i : ℕ) → Memᴰ (π.position (2 * suc i)) (G.moves (π.position (suc (2 * i))))

-- Definition 5: the outcomes of a strategy under delay d
pub record Outcome (G : Game) {A : ℕ} (d : ℕ) (σ : Strategy A d) (π : Infinite) : Type 0 where
  pub play : IsInfinite G π
  pub chosen : (i : ℕ) → π.action i ≡ choice d σ (up_to π i)

-- the environment plays by the rule
abbrev pub Against : Rule → Infinite → Type 0
Against rule π = (i : ℕ) → π.position (2 * suc i) ≡ rule (acted_at π i)

-- no position of the play is unsafe
abbrev pub AllSafe : Game → Infinite → Type 0
AllSafe G π = (n : ℕ) → G.safe (π.position n) ≡ true
