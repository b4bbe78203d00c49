-- The part of a mask that may stand, and the marks by which nodes count as fallen. Assumes nothing.
use Rattle.std.specs.Prelude.{ℕ, ◌<◌, ◌≡◌, Bool, not, cond, List, eqb, leb, length, get_or}
use Rattle.theory.specs.Fold.{both, tabulate}
use Rattle.theory.specs.Buffer.{over}
use Rattle.theory.specs.Rounds.{Arena, spoilt_by, mask_below}
use Rattle.theory.specs.Table.{bit}
use Rattle.walk.specs.declared.level.Level.{Level}
use Rattle.walk.specs.code.Levels.{arena_of}
use Rattle.walk.specs.code.Nodes.{is_node}
use Rattle.walk.specs.code.Walks.{fallen_by}
use Rattle.walk.specs.declared.arena.Arena.{Arena as Arrays}

-- a node's mark for the walk: 1, fallen, where it has no mask
unfoldable pub mark_for : ℕ → ℕ
mark_for mask = cond (eqb mask 0) 1 0

unfoldable pub mark_at : List ℕ → ℕ → ℕ
mark_at masks k = mark_for (get_or masks k 0)

-- the marks of so many nodes in a buffer; nothing is marked where it has no room for all
unfoldable pub marks_after : List ℕ → List ℕ → List ℕ
marks_after masks buffer = cond (leb (length masks) (length buffer)) (over (tabulate (mark_at masks) 0 (length masks)) buffer) buffer

-- each node of a T body has its mark
abbrev pub Marked : List ℕ → List ℕ → Type 0
Marked masks marks = (k : ℕ) → k < length masks → get_or marks k 0 ≡ mark_at masks k

-- action c is in the mask m and not spoilt at node k
unfoldable pub stays : Arena → (ℕ → Bool) → ℕ → ℕ → ℕ → Bool
stays E fallen k m c = both (bit m c) (not (spoilt_by E fallen k c))

-- the part of a mask that may stand at node k, by what counts as fallen
unfoldable pub part_of : Arena → (ℕ → Bool) → ℕ → ℕ → ℕ
part_of E fallen k m = cond (both (E.right k) (E.safe k)) (mask_below (stays E fallen k m) E.actions) 0

-- over the arrays and for any numbers, what has fallen being the nodes with the mark 1: nothing where there is no such node
unfoldable pub part_in : List ℕ → List (List ℕ) → List ℕ → List ℕ → Level → List ℕ → ℕ → ℕ → ℕ
part_in p g u f l marks k m = cond (is_node (length p) l k) (part_of (arena_of p g u f l) (fallen_by 1 marks) k m) 0

-- the same over the code's arena
abbrev pub part_at : Arrays → List ℕ → ℕ → ℕ → ℕ
part_at a = part_in a.positions.now a.grid.now a.moves.now a.firsts.now a.level
