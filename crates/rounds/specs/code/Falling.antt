-- One round over the solver's arrays, and what all rounds leave. Assumes nothing.
use Rattle.std.specs.Prelude.{ℕ, ◌/◌, ◌≤◌, max, ◌≡◌, Bool, true, false, not, cond, List, [], ◌∷◌, eqb, get_or, length}
use Rattle.theory.specs.Fold.{both, all_below, tabulate}
use Rattle.theory.specs.Rounds.{Arena, spoilt_by, fell, node_falls, rank_in, final_ranks}
use Rattle.sheet.specs.Kinds.{controller_at, safe_at}
use Rattle.walk.specs.declared.level.Level.{Level}
use Rattle.walk.specs.code.Nodes.{is_fitted}
use Rattle.walk.specs.code.Walks.{fallen_by}
use Rattle.theory.specs.Delay.{on_right}
use Rattle.walk.specs.code.Levels.{arena_of}
use Rattle.walk.specs.declared.arena.Arena as walk

-- a node's rank after round 1
unfoldable pub first_rank : List ℕ → Level → ℕ → ℕ
first_rank p l k = cond (both (on_right l.odd (controller_at p) (k / l.words)) (not (safe_at p (k / l.words)))) 1 0

-- node k, without a rank yet, falls to the nodes of rank 1 to n
unfoldable pub falls_to : Arena → ℕ → List ℕ → ℕ → Bool
falls_to E n ranks k =
    both (eqb (get_or ranks k 0) 0) (both (E.right k) (all_below (spoilt_by E (fallen_by n ranks) k) E.actions))

-- node k falls in round n + 1, ranks being those after round n
unfoldable pub falls_next : Arena → ℕ → List ℕ → ℕ → Bool
falls_next E n ranks k = both (not (fell ranks k)) (both (E.right k) (node_falls E n ranks k))

unfoldable pub next_ranks : Arena → ℕ → List ℕ → List ℕ
next_ranks E n ranks = tabulate (rank_in E n ranks) 0 E.nodes

-- no rank is over n
abbrev pub AtMost : ℕ → List ℕ → Type 0
AtMost n ranks = (k : ℕ) → get_or ranks k 0 ≤ n

-- the last round in which a node fell, or round 1
unfoldable pub last_round : List ℕ → ℕ
last_round [] = 1
last_round (r ∷ ranks) = max r (last_round ranks)

-- what all rounds leave, and the number of the last; nothing changed and 0 where level and buffer don't fit
unfoldable pub Ranked : Bool → Arena → List ℕ → List ℕ → ℕ → Type 0
Ranked true E before after n = (after ≡ final_ranks E) × (n ≡ last_round after)
Ranked false E before after n = (after ≡ before) × (n ≡ 0)

-- over the code's arrays: any level and buffer
abbrev pub RanksLeft : List ℕ → List (List ℕ) → List ℕ → List ℕ → Level → List ℕ → List ℕ → ℕ → Type 0
RanksLeft p g u f l before after n = Ranked (is_fitted (length p) l (length before)) (arena_of p g u f l) before after n

abbrev pub RanksLeftIn : walk.Arena → List ℕ → List ℕ → ℕ → Type 0
RanksLeftIn a = RanksLeft a.positions.now a.grid.now a.moves.now a.firsts.now a.level
