-- `fill_masks` meets its contract. Assumes nothing.
use Rattle.std.proofs.Common.{arith}
use Rattle.walk.proofs.NodeLaws.{fitted_entries}
use Rattle.region.proofs.masks.fill_masks.Goals as goal

pub all_masks-requires : goal.all_masks-requires
all_masks-requires c = omega (arith, fitted_entries _ _ c.is_fitted.ensures c.if-not-is_fitted.false)
