-- `unspoilt_part` meets its contract. The part has the bits of the actions passed. Assumes nothing.
use Rattle.std.proofs.Common.{◌≡◌}
use Rattle.theory.specs.Rounds.{mask_below}
use Rattle.region.specs.code.Kept.{remains}
use Rattle.region.proofs.masks.unspoilt_part.Given as goal

abbrev pub invariant-loop-c : goal.invariant-loop-c
invariant-loop-c l = l.part ≡ mask_below (remains l.sized.arena.now l.fallen l.k l.mask) l.c
