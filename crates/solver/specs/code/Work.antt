-- The worklist's state, and what it does with one node. While round n + 1 is worked, a bit goes out of a node's mask when its
-- action is known to be spoilt, and a node falls when its last bit goes out. Assumes nothing.
use Rattle.std.specs.Prelude.{ℕ, zero, suc, ◌+◌, ◌-◌, ◌^◌, ◌≤◌, ◌≡◌, cond, eqb, ltb, length, get_or, set}
use mathlib.Core.List.{List, foldl}
use Rattle.theory.specs.Table.{bit}
use Rattle.sheet.specs.Limits.{most_nodes}

-- the two buffers, and the nodes that have fallen, in the order of their ranks: so many as tail says
pub record Work : Type 0 where
  pub ranks : List ℕ
  pub masks : List ℕ
  pub queue : List ℕ
  pub tail : ℕ

abbrev pub work : List ℕ → List ℕ → List ℕ → ℕ → Work
work ranks masks queue tail = record { ranks = ranks; masks = masks; queue = queue; tail = tail }

-- the buffers are lent for the same nodes
pub record Lent (ranks masks queue : List ℕ) : Type 0 where
  pub ranks_size : length ranks ≡ length masks
  pub queue_size : length queue ≡ length masks
  pub few : length masks ≤ most_nodes

-- node k falls in round n + 1. The queue has an entry for each node, so it has room
unfoldable pub fall_to : ℕ → Work → ℕ → Work
fall_to n w k =
    cond (ltb w.tail (length w.queue))
    (work (set w.ranks k (n + 1)) (set w.masks k 0) (set w.queue w.tail k) (w.tail + 1))
    w

-- what is left of node k's mask
unfoldable pub leave_to : ℕ → Work → ℕ → ℕ → Work
leave_to n w k rest =
    cond (eqb rest 0) (fall_to n w k) (work w.ranks (set w.masks k rest) w.queue w.tail)

-- action c is spoilt at node k
unfoldable pub mark_to : ℕ → ℕ → Work → ℕ → Work
mark_to n c w k = cond (bit (get_or w.masks k 0) c) (leave_to n w k (get_or w.masks k 0 - 2 ^ c)) w

-- action c is spoilt at each of these nodes
unfoldable pub marks_to : ℕ → ℕ → Work → List ℕ → Work
marks_to n c w ks = foldl (mark_to n c) w ks

-- every action is spoilt at node k
unfoldable pub spoil_all_to : ℕ → Work → ℕ → Work
spoil_all_to n w k = cond (eqb (get_or w.masks k 0) 0) w (fall_to n w k)

-- a step at so many places, from place i on
unfoldable pub steps_to : (Work → ℕ → Work) → Work → ℕ → ℕ → Work
steps_to f w i zero = w
steps_to f w i (suc count) = steps_to f (f w i) (i + 1) count

-- every action is spoilt at so many nodes, from k on
abbrev pub spoil_row_to : ℕ → Work → ℕ → ℕ → Work
spoil_row_to n = steps_to (spoil_all_to n)
