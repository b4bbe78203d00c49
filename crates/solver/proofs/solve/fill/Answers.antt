-- `fill` meets its contract. Assumes nothing.
use Rattle.solver.proofs.SolveLaws.{filling}
use Rattle.solver.proofs.solve.fill.Goals as goal

pub slice_bounds-mask_level-end : goal.slice_bounds-mask_level-end
slice_bounds-mask_level-end c = search filling

pub slice_bounds-mask_level-end-2 : goal.slice_bounds-mask_level-end-2
slice_bounds-mask_level-end-2 c = search filling

pub invariant_of-mask_level : goal.invariant_of-mask_level
invariant_of-mask_level c = search filling

pub mask_level-requires : goal.mask_level-requires
mask_level-requires c = search filling

pub returns : goal.returns
returns c = search filling
