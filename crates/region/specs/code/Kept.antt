-- Kept nodes, their masks and the good first words, over a sheet's arrays: p is the P body, g the grid of targets, u the U body, f the
-- index of first lines. Assumes nothing.
use Rattle.std.specs.Prelude.{ℕ, ◌*◌, ◌/◌, Bool, true, false, not, cond, List, [], ltb, length}
use Rattle.theory.specs.Fold.{both, any_below, tabulate}
use Rattle.theory.specs.Game.{Game}
use Rattle.theory.specs.Rounds.{Arena, spoilt_by, kept_by, kept, mask_below}
use Rattle.theory.specs.Delay.{on_right, good_by}
use Rattle.theory.specs.Table.{bit}
use Rattle.sheet.specs.Limits.{most_positions}
use Rattle.sheet.specs.Kinds.{controller_at}
use Rattle.sheet.specs.code.Arrays.{view_of}
use Rattle.walk.specs.declared.level.Level.{Level}
use Rattle.walk.specs.code.Levels.{arena_of}
use Rattle.walk.specs.code.Nodes.{Sized, is_sized, is_fitted}
use Rattle.walk.specs.code.Walks.{fallen_by}
use Rattle.walk.specs.code.Arenas.{spoilt}
use Rattle.walk.specs.declared.arena.Arena.{Arena as Arrays}
use Rattle.walk.specs.declared.arena.Fallen.{Fallen}
use Rattle.region.specs.declared.words.Kept.{Kept}

-- node k is of the right side
unfoldable pub on_side : List ℕ → Level → ℕ → Bool
on_side p l k = on_right l.odd (controller_at p) (k / l.words)

-- the mask of a kept node, what has fallen being the nodes of rank 1 to n
unfoldable pub allowed_in : Arena → ℕ → List ℕ → ℕ → ℕ
allowed_in E n ranks k = mask_below (λ c. not (spoilt_by E (fallen_by n ranks) k c)) E.actions

-- the mask of any node; 0 where it is not kept
unfoldable pub mask_in : Arena → ℕ → List ℕ → ℕ → ℕ
mask_in E n ranks k = cond (kept E ranks k) (allowed_in E n ranks k) 0

unfoldable pub masks_in : Arena → ℕ → List ℕ → List ℕ
masks_in E n ranks = tabulate (mask_in E n ranks) 0 E.nodes

-- what a buffer holds after the masks are filled in; nothing is done where level and buffer don't fit
abbrev pub masks_after : List ℕ → List (List ℕ) → List ℕ → List ℕ → Level → ℕ → List ℕ → List ℕ → List ℕ
masks_after p g u f l n ranks buffer =
    cond (is_fitted (length p) l (length buffer)) (masks_in (arena_of p g u f l) n ranks) buffer

-- the arrays' game without the environment's moves, which no first word asks about
abbrev pub moveless_game : List ℕ → List (List ℕ) → Level → Game
moveless_game p g l = view_of p g [] [] l.start l.actions

-- the good first words by these ranks
unfoldable pub good_in : List ℕ → List (List ℕ) → Level → List ℕ → ℕ → Bool
good_in p g l ranks v = good_by l.odd (moveless_game p g l) l.words (kept_by (on_side p l) ranks) v

-- the number of first words: odd delays have one action more
unfoldable pub words_on : Bool → Level → ℕ
words_on true l = l.words * l.actions
words_on false l = l.words

unfoldable pub first_words : Level → ℕ
first_words l = words_on l.odd l

-- some first word is good; none is where the level or its start is too large
abbrev pub some_good : List ℕ → List (List ℕ) → Level → List ℕ → Bool
some_good p g l ranks =
    both (is_sized (length p) l) (both (ltb l.start most_positions) (any_below (good_in p g l ranks) (first_words l)))

-- the same over the code's arena, and over what decides about first words (src/words.rt)

abbrev pub masks_left : Arrays → Fallen → List ℕ → List ℕ
masks_left a f = masks_after a.positions.now a.grid.now a.moves.now a.firsts.now a.level f.last f.marks.now

-- action c is in the mask m and not spoilt at node k
abbrev pub remains : Arrays → Fallen → ℕ → ℕ → ℕ → Bool
remains a f k m c = both (bit m c) (not (spoilt a f k c))

abbrev pub unspoilt_part : Arrays → Fallen → ℕ → ℕ → ℕ
unspoilt_part a f k m = mask_below (remains a f k m) a.level.actions

abbrev pub IsSized : Kept → Type 0
IsSized w = Sized (length w.positions.now) w.level

abbrev pub keeps : Kept → ℕ → Bool
keeps w = kept_by (on_side w.positions.now w.level) w.ranks.now

abbrev pub good : Kept → ℕ → Bool
good w = good_in w.positions.now w.grid.now w.level w.ranks.now

abbrev pub some_good_in : Kept → Bool
some_good_in w = some_good w.positions.now w.grid.now w.level w.ranks.now
