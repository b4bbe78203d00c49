-- `all_masks` meets its contract. The masks of the nodes passed are in place. Assumes nothing.
use Rattle.std.proofs.Common.{◌≡◌}
use Rattle.walk.specs.code.Arenas.{arena_in}
use Rattle.theory.proofs.Filling.{filled}
use Rattle.region.specs.code.Kept.{mask_in}
use Rattle.region.proofs.masks.all_masks.Given as goal

abbrev pub invariant-loop-k : goal.invariant-loop-k
invariant-loop-k l = l.masks ≡ filled (mask_in (arena_in l.sized.arena.now) l.fallen.last l.fallen.marks.now) l.k l.initial.masks
