-- The code's structs, seen as what the definitions speak of. Assumes nothing.
use Rattle.std.specs.Prelude.{ℕ, ◌*◌, ◌≡◌, Bool, List, length}
use Rattle.theory.specs.Game.{Game}
use Rattle.sheet.specs.code.Arrays.{view_of}
use Rattle.region.specs.declared.arrays.GameArrays.{GameArrays}
use Rattle.walk.specs.declared.level.Level.{Level}
use Rattle.walk.specs.declared.arena.Arena.{Arena}
use Rattle.solver.specs.declared.index.Index.{Index}
use Rattle.solver.specs.declared.mark.Worklist.{Worklist}
use Rattle.solver.specs.declared.spread.Spot.{Spot}
use Rattle.solver.specs.code.Spread as spread
use Rattle.solver.specs.code.Sweep as sweep
use Rattle.solver.specs.code.Chains.{head_of}
use Rattle.solver.specs.code.Work.{Work, work, marks_to}
use Rattle.solver.specs.code.First.{Placed}
use Rattle.solver.specs.code.Seen.{Seen}
use Rattle.solver.specs.code.Working.{Workable, Levelable}
use Rattle.solver.specs.code.Search.{Fillable}

abbrev pub listed : Worklist → Work
listed w = work w.ranks.now w.masks.now w.queue.now w.tail

-- the same buffers, for as many nodes
abbrev pub Same : Worklist → Worklist → Type 0
Same before after =
    (after.ranks.ghost_name ≡ before.ranks.ghost_name)
    × (after.masks.ghost_name ≡ before.masks.ghost_name)
    × (after.queue.ghost_name ≡ before.queue.ghost_name)
    × (length after.masks.now ≡ length before.masks.now)

-- the same buffers, at this state
abbrev pub Turned : Worklist → Work → Worklist → Type 0
Turned before w after = Same before after × (listed after ≡ w)

abbrev pub spotted : Spot → spread.Spot
spotted s = spread.spot s.round.n s.round.level.words s.round.younger s.round.level.actions s.word s.rest s.action

abbrev pub indexed : Index → sweep.Index
indexed x = sweep.index x.moves.now x.reaching.now.heads x.reaching.now.links x.leading.now.heads x.leading.now.links

-- how many rows of nodes with the same position and oldest action there are
abbrev pub row_count : Arena → ℕ
row_count a = length a.positions.now * a.level.actions

-- the nodes below one are as round 1 leaves them
abbrev pub PlacedTo : Arena → ℕ → ℕ → Worklist → Type 0
PlacedTo a full k w = Placed a.positions.now a.level full k (listed w)

-- a spot's action spoilt at these nodes
abbrev pub Marked : Worklist → Spot → List ℕ → Worklist → Type 0
Marked before s ks after = Turned before (marks_to s.round.n s.action (listed before) ks) after

-- the nodes of a spot that lead to target t, that move to position q with a word, and that a node at position q is an outcome of
abbrev pub callers_of : Index → Spot → ℕ → List ℕ
callers_of x s t = spread.callers x.leading.now.links (spotted s) (head_of x.leading.now.heads t)

abbrev pub sources_of : Index → Spot → ℕ → ℕ → List ℕ
sources_of x s word q = spread.sources x.moves.now x.reaching.now.links (spotted s) word (head_of x.reaching.now.heads q)

abbrev pub even_nodes_of : Index → Spot → ℕ → List ℕ
even_nodes_of x s q =
    spread.even_nodes x.moves.now x.reaching.now.links x.leading.now.heads x.leading.now.links (spotted s) (head_of x.reaching.now.heads q)

abbrev pub odd_nodes_of : Index → Spot → ℕ → List ℕ
odd_nodes_of x s q =
    spread.odd_nodes x.moves.now x.reaching.now.links x.reaching.now.heads x.leading.now.links (spotted s) (head_of x.leading.now.heads q)

-- what is noted was done: the masks of a list have no bit that a note says is out
abbrev pub Noted : Index → Level → ℕ → List Bool → Worklist → Type 0
Noted x l younger seen w = Seen x.leading.now.heads x.leading.now.links l.words younger l.actions seen w.masks.now

-- the arena and the index of a level that can be solved by the worklist, where a word has so many younger words; and of any level
abbrev pub CanWork : Arena → Index → ℕ → Type 0
CanWork a x younger = Workable a.positions.now a.grid.now a.moves.now a.firsts.now (indexed x) a.level younger

abbrev pub CanLevel : Arena → Index → Type 0
CanLevel a x = Levelable a.positions.now a.grid.now a.moves.now a.firsts.now (indexed x) a.level

-- the game that a sheet's arrays hold
abbrev pub view_in : GameArrays → Game
view_in a = view_of a.positions.now a.grid a.moves.now a.firsts a.layout.start a.layout.actions

-- what filling both buffers needs, the masks first; and the index of such a game
abbrev pub CanFill : GameArrays → List ℕ → List ℕ → Type 0
CanFill a masks ranks =
    Fillable a.positions.now a.grid a.moves.now a.firsts a.layout.start a.layout.actions a.layout.delay masks ranks

abbrev pub IndexOf : GameArrays → sweep.Index → Type 0
IndexOf a x = sweep.Indexed a.moves.now a.grid a.layout.delay x
