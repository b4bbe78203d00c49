-- What a method leaves of the code's struct. What holds of every value of it are its ghost fields (src/cut.rt). Assumes nothing.
use Rattle.std.specs.Prelude.{ℕ, ◌<◌, ◌≡◌, Bool, true, false, not, eqb, get_or, set}
use Rattle.walk.specs.code.Arenas.{arena_in}
use Rattle.rule.specs.code.Parts.{mark_for}
use Rattle.prune.specs.declared.cut.Pruning.{Pruning}
use Rattle.prune.specs.code.Pruning.{cut_at, swept_to, changed_to, Cut, Pruned, total}

-- the same arena and the same masks, which are lent
pub record Same (w w' : Pruning) : Type 0 where
  pub arena : w'.arena.now ≡ w.arena.now
  pub masks : w'.masks.ghost_name ≡ w.masks.ghost_name

-- node k has what is left of its mask, and the mark for that
pub record Left (w : Pruning) (k v : ℕ) (w' : Pruning) : Type 0 where
  pub masks : w'.masks.now ≡ set w.masks.now k v
  pub marks : w'.marks.now ≡ set w.marks.now k (mark_for v)
  pub same : Same w w'

-- node k keeps the part of its mask that may stand, and had more or not
pub record CutOnce (w : Pruning) (k : ℕ) (w' : Pruning) (changed : Bool) : Type 0 where
  pub left : w'.masks.now ≡ cut_at (arena_in w.arena.now) w.masks.now k
  pub any : changed ≡ not (eqb (get_or w'.masks.now k 0) (get_or w.masks.now k 0))
  pub same : Same w w'

-- bits went out of masks alone
pub record Goes (w w' : Pruning) : Type 0 where
  pub cut : Cut (arena_in w.arena.now) w.masks.now w'.masks.now
  pub same : Same w w'

-- a sweep that has come to node k, and whether a mask had more
pub record Swept (w : Pruning) (k : ℕ) (w' : Pruning) (changed : Bool) : Type 0 where
  pub left : w'.masks.now ≡ swept_to (arena_in w.arena.now) w.masks.now k
  pub any : changed ≡ changed_to (arena_in w.arena.now) w.masks.now k
  pub same : Same w w'

-- a sweep with what follows it: it makes the masks less, or they stand
pub record SweptOn (w w' : Pruning) (changed : Bool) : Type 0 where
  pub goes : Goes w w'
  pub less : changed ≡ true → total w'.masks.now < total w.masks.now
  pub over : changed ≡ false → Pruned (arena_in w.arena.now) w.masks.now w'.masks.now
