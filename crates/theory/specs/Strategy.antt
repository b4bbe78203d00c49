-- Definition 5: playing under delay d, over finite plays (docs/DECISIONS.md, "Finite plays"). A strategy names one action each
-- time and needs no game, only the number A of actions. Assumes nothing.
use Rattle.std.specs.Prelude.{ℕ, ◌+◌, ◌*◌, ◌/◌, ◌^◌, ◌<◌, ◌≡◌, true, cond, ltb}
use mathlib.Core.List.{Memᴰ}
use Rattle.theory.specs.Words.{digit}
use Rattle.theory.specs.Game.{Game, to}
use Rattle.theory.specs.Play.{Play, origin, act, move, last, turns, back}

-- the length of the first word, "the upper half of d"
abbrev pub initial_length : ℕ → ℕ
initial_length d = (d + 1) / 2

-- one first word, and one action for each history
pub record Strategy (A d : ℕ) : Type 0 where
  pub initial : ℕ
  pub initial_word : initial < A ^ initial_length d
  pub given : Play → ℕ
  pub given_action : (π : Play) → given π < A

-- the action of turn i: the first word's while 2i < d, else the one given for h, the play up to index 2i - d
unfoldable pub action_of : {A : ℕ} (d : ℕ) → Strategy A d → ℕ → Play → ℕ
action_of {A} d σ i h = cond (ltb (2 * i) d) (digit A (initial_length d) σ.initial i) (σ.given h)

-- the action that the strategy has played at the end of π, an own position at index 2 * turns π
unfoldable pub choice : {A : ℕ} (d : ℕ) → Strategy A d → Play → ℕ
choice d σ π = action_of d σ (turns π) (back d π)

-- one move by the strategy or by the environment
pub data Next (G : Game) {A : ℕ} (d : ℕ) (σ : Strategy A d) (π : Play) : Play → Type 0 where
  by_action : (q : ℕ) → G.target (last G π) (choice d σ π) ≡ to q → Next G d σ π (act π (choice d σ π) q)
  by_move : (r : ℕ) → Memᴰ r (G.moves (last G π)) → Next G d σ π (move π r)

-- the finite outcomes of the strategy
pub data Consistent (G : Game) {A : ℕ} (d : ℕ) (σ : Strategy A d) : Play → Type 0 where
  here : Consistent G d σ origin
  then : {π π' : Play} → Consistent G d σ π → Next G d σ π π' → Consistent G d σ π'

-- "playable": at every own position reached the action played there is permitted there
abbrev pub Playable : (G : Game) {A : ℕ} (d : ℕ) → Strategy A d → Type 0
Playable G d σ = (π : Play) → Consistent G d σ π → G.controller (last G π) ≡ true → (q : ℕ) × (G.target (last G π) (choice d σ π) ≡ to q)

-- "winning": playable, and no outcome reaches an unsafe position. Every prefix of an outcome is one, so all its positions are safe
pub record Wins (G : Game) {A : ℕ} (d : ℕ) (σ : Strategy A d) : Type 0 where
  pub playable : Playable G d σ
  pub safe : (π : Play) → Consistent G d σ π → G.safe (last G π) ≡ true

abbrev pub Winnable : Game → ℕ → Type 0
Winnable G d = (σ : Strategy G.actions d) × Wins G d σ
