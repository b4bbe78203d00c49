-- The rounds of document 01 ("Pairs, rounds and the table") over an abstract arena, without parity, games or words. What has
-- fallen is a parameter of `spoilt_by`, so that judging and notices use the same definition. Assumes nothing.
use Rattle.std.specs.Prelude.{ℕ, zero, suc, ◌+◌, ◌^◌, ◌<◌, ◌≡◌, Bool, true, not, cond, eqb, get_or}
use mathlib.Core.List.{List, Memᴰ}
use Rattle.theory.specs.Fold.{both, all_below, any_of, tabulate}
use Rattle.theory.specs.Game.{Target, absent, to}

-- nodes are document 01's "pairs", by number. step k c has one outcome for each environment choice: the node reached, or absent
-- where the oldest action is not permitted or an unsafe position is passed
pub record Arena : Type 0 where
  pub nodes : ℕ
  pub actions : ℕ
  pub right : ℕ → Bool
  pub safe : ℕ → Bool
  pub step : ℕ → ℕ → List Target

-- an outcome that spoils the action
unfoldable pub bad : (ℕ → Bool) → Target → Bool
bad fallen absent = true
bad fallen (to k) = fallen k

-- "A command is spoilt if ..": some outcome of choosing c at node k is bad
unfoldable pub spoilt_by : Arena → (ℕ → Bool) → ℕ → ℕ → Bool
spoilt_by E fallen k c = any_of (bad fallen) (E.step k c)

-- the rank is the round in which a node fell, 0 for none
unfoldable pub fell : List ℕ → ℕ → Bool
fell ranks k = not (eqb (get_or ranks k 0) 0)

-- what makes a node fall in round n + 1, ranks being those after round n
unfoldable pub node_falls : Arena → ℕ → List ℕ → ℕ → Bool
node_falls E zero ranks k = not (E.safe k)
node_falls E (suc n) ranks k = all_below (spoilt_by E (fell ranks) k) E.actions

-- a node's rank after round n + 1. "Only pairs of the right side can fall"
unfoldable pub rank_in : Arena → ℕ → List ℕ → ℕ → ℕ
rank_in E n ranks k = cond (fell ranks k) (get_or ranks k 0) (cond (both (E.right k) (node_falls E n ranks k)) (suc n) 0)

-- the ranks after round n; before round 1 nothing has fallen
unfoldable pub ranks_after : Arena → ℕ → List ℕ
ranks_after E zero = tabulate (λ k. 0) 0 E.nodes
ranks_after E (suc n) = tabulate (rank_in E n (ranks_after E n)) 0 E.nodes

-- after so many rounds nothing falls any more (proofs/Rounds.antt, final_after)
unfoldable pub final_ranks : Arena → List ℕ
final_ranks E = ranks_after E (suc E.nodes)

-- "A pair of the right side that never falls is kept": it is in the winning region
unfoldable pub kept_by : (ℕ → Bool) → List ℕ → ℕ → Bool
kept_by right ranks k = both (right k) (not (fell ranks k))

abbrev pub kept : Arena → List ℕ → ℕ → Bool
kept E = kept_by E.right

-- the number with bit c set for each c below n that passes the test
unfoldable pub mask_below : (ℕ → Bool) → ℕ → ℕ
mask_below p zero = 0
mask_below p (suc n) = mask_below p n + cond (p n) (2 ^ n) 0

-- the mask of a node: "bit c set for each command not spoilt at the end"; 0 where the node is not kept
unfoldable pub mask_at : Arena → List ℕ → ℕ → ℕ
mask_at E ranks k = cond (kept E ranks k) (mask_below (λ c. not (spoilt_by E (fell ranks) k c)) E.actions) 0

unfoldable pub masks_by : Arena → List ℕ → List ℕ
masks_by E ranks = tabulate (mask_at E ranks) 0 E.nodes

unfoldable pub masks : Arena → List ℕ
masks E = masks_by E (final_ranks E)

-- S is a winning set at node k: k is safe and has an action all of whose outcomes are nodes of S
pub record Closed (E : Arena) (S : ℕ → Type 0) (k : ℕ) : Type 0 where
  pub safe : E.safe k ≡ true
  pub action : ℕ
  pub action_lt : action < E.actions
  pub inside : (o : Target) → Memᴰ o (E.step k action) → (k' : ℕ) × (o ≡ to k') × S k'
