-- `mask_of` meets its contract. Assumes nothing.
use Rattle.std.proofs.Common.{◌∙◌}
use Rattle.region.proofs.MaskLaws.{whole_fits, whole_mask}
use Rattle.region.proofs.masks.mask_of.Goals as goal

pub overflow_cast-result : goal.overflow_cast-result
overflow_cast-result c =
    whole_fits _ _ _ _ _ _ _ _ c.args.sized.now.fits c.requires (c.from.ensures ∙ c.full_mask.ensures) c.unspoilt_part.ensures

pub returns-then-has : goal.returns-then-has
returns-then-has c =
    whole_mask _ _ _ _ _ _ _ _ c.args.sized.now.fits c.requires (c.from.ensures ∙ c.full_mask.ensures) c.unspoilt_part.ensures c.has.ensures
    c.if-has.true
