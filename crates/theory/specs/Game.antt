-- The yard of document 01: a safety game (Definitions 1 and 3 of document 000). Positions are numbers from 0.
-- Assumes nothing.
use Rattle.std.specs.Prelude.{ℕ, ◌<◌, ◌≡◌, Bool, true, false, ◌⊎◌}
use mathlib.Core.List.{List, Memᴰ}

-- where an own move leads; absent where the action is not permitted ("one position and command have at most one target")
pub data Target : Type 0 where
  absent : Target
  to : ℕ → Target

-- controller: "own" positions; the others are the environment's, "yard" positions
pub record Game : Type 0 where
  pub positions : ℕ
  pub start : ℕ
  pub actions : ℕ
  pub controller : ℕ → Bool
  pub safe : ℕ → Bool
  pub target : ℕ → ℕ → Target
  pub moves : ℕ → List ℕ

-- an own move has an action and leads from an own to a yard position
pub record LegalTarget (G : Game) (p c q : ℕ) : Type 0 where
  pub from_position : p < G.positions
  pub from_controller : G.controller p ≡ true
  pub action : c < G.actions
  pub position : q < G.positions
  pub environment : G.controller q ≡ false

-- a yard move leads from a yard to an own position
pub record LegalMove (G : Game) (p r : ℕ) : Type 0 where
  pub from_position : p < G.positions
  pub from_environment : G.controller p ≡ false
  pub position : r < G.positions
  pub controller : G.controller r ≡ true

-- Definition 1: bipartite moves, labels on own moves only, no deadlock ("every position has a move"), an own start. One target
-- for a position and an action is in the type of `target`.
pub record Legal (G : Game) : Type 0 where
  pub start_position : G.start < G.positions
  pub start_controller : G.controller G.start ≡ true
  pub targets : (p c q : ℕ) → G.target p c ≡ to q → LegalTarget G p c q
  pub moves : (p r : ℕ) → Memᴰ r (G.moves p) → LegalMove G p r
  pub live : (p : ℕ) → p < G.positions → ((c : ℕ) × (q : ℕ) × (G.target p c ≡ to q)) ⊎ ((r : ℕ) × Memᴰ r (G.moves p))
