-- `solve_level` meets its contract. Assumes nothing.
use Rattle.std.proofs.Common.{rules}
use Rattle.solver.proofs.LevelLaws.{level_rounds}
use Rattle.solver.proofs.levels.solve_level.Goals as goal

pub returns-then-arena-eq1 : goal.returns-then-arena-eq1
returns-then-arena-eq1 c = search (rules, level_rounds)
