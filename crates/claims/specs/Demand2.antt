-- Demand 2 over bytes, as the customer reads it: what must hold of the verdict, the masks and the ranks for every sheet that solving
-- accepts, by Definition 5's strategies. Assumes nothing.
use Rattle.std.specs.Prelude.{ℕ, suc, ◌≤◌, ◌<◌, ◌≡◌, true, false, ◌↔◌, get_or}
use mathlib.Core.List.{List, Memᴰ}
use Rattle.theory.specs.Answer.{accepted}
use Rattle.theory.specs.Game.{Game, Target, to}
use Rattle.theory.specs.Strategy.{Winnable}
use Rattle.theory.specs.Rounds.{Closed, fell, ranks_after, final_ranks, kept}
use Rattle.theory.specs.Delay.{wins, losing, arena}
use Rattle.theory.specs.Table.{bit}
use Rattle.sheet.specs.Bodies.{delay_of}
use Rattle.sheet.specs.SheetGame.{game_of}
use Rattle.solver.specs.Solving.{Solved, solved_delay, masks_left, ranks_left}

-- a node that is kept: "of the right side that never falls"
abbrev pub IsKept : Game → ℕ → ℕ → Type 0
IsKept G d k = kept (arena G d) (final_ranks (arena G d)) k ≡ true

-- S is a winning set: each of its nodes of the right side is safe and has an action all of whose outcomes are nodes of S
abbrev pub WinningSet : Game → ℕ → (ℕ → Type 0) → Type 0
WinningSet G d S = (k : ℕ) → k < (arena G d).nodes → (arena G d).right k ≡ true → S k → Closed (arena G d) S k

-- every outcome of action c at node k is a node of S
abbrev pub StaysIn : Game → ℕ → (ℕ → Type 0) → ℕ → ℕ → Type 0
StaysIn G d S k c = (o : Target) → Memᴰ o ((arena G d).step k c) → (k' : ℕ) × (o ≡ to k') × S k'

-- node k falls in round n + 1: it stood after round n and has fallen after the next
abbrev pub FallsIn : Game → ℕ → ℕ → ℕ → Type 0
FallsIn G d n k = (fell (ranks_after (arena G d) n) k ≡ false) × (fell (ranks_after (arena G d) (suc n)) k ≡ true)

-- m is the least delay at which no strategy wins, and at most the asked one
pub record Least (G : Game) (asked m : ℕ) : Type 0 where
  pub within : m ≤ asked
  pub none : Winnable G m → ⊥
  pub below : (j : ℕ) → j < m → Winnable G j

-- the table and the ranks that two buffers hold for delay d
pub record TableFor (G : Game) (d : ℕ) (mask_buffer rank_buffer masks_now ranks_now : List ℕ) : Type 1 where
  -- the kept nodes are the largest winning set
  pub kept_wins : WinningSet G d (IsKept G d)
  pub kept_largest : (S : ℕ → Type 0) → WinningSet G d S → (k : ℕ) → (arena G d).right k ≡ true → S k → IsKept G d k
  -- a node's mask allows exactly the actions that stay in it
  pub masks : (k c : ℕ) → k < (arena G d).nodes
      → (bit (get_or masks_now k 0) c ≡ true) ↔ (IsKept G d k × (c < G.actions) × StaysIn G d (IsKept G d) k c)
  -- a fallen node's rank is its round
  pub ranks : (n k : ℕ) → k < (arena G d).nodes → (get_or ranks_now k 0 ≡ suc n) ↔ FallsIn G d n k
  -- entries beyond the nodes are as they came in
  pub masks_beyond : (k : ℕ) → (arena G d).nodes ≤ k → get_or masks_now k 0 ≡ get_or mask_buffer k 0
  pub ranks_beyond : (k : ℕ) → (arena G d).nodes ≤ k → get_or ranks_now k 0 ≡ get_or rank_buffer k 0

pub record Demand2 (s : List ℕ) (a : Solved) (mask_buffer rank_buffer : List ℕ) : Type 1 where
  pub winning : (a.verdict ≡ wins) ↔ Winnable (game_of s) (delay_of s)
  pub losing : (m : ℕ) → a.verdict ≡ losing m → Least (game_of s) (delay_of s) m
  -- for the asked delay where it wins, else for m
  pub table : TableFor (game_of s) (solved_delay (delay_of s) a.verdict) mask_buffer rank_buffer (masks_left s (accepted a) mask_buffer)
      (ranks_left s (accepted a) rank_buffer)
