-- `mask_level` meets its contract. Assumes nothing.
use Rattle.std.proofs.Common.{rules}
use Rattle.solver.proofs.LevelLaws.{masks_all}
use Rattle.solver.proofs.levels.mask_level.Goals as goal

pub returns-then-sized-eq1 : goal.returns-then-sized-eq1
returns-then-sized-eq1 c = search (rules, masks_all)
