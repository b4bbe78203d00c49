-- `first` meets its contract. The nodes of the positions passed are placed. Assumes nothing.
use Rattle.std.proofs.Common.{rules}
use Rattle.solver.proofs.FirstLaws.{rows_start}
use Rattle.solver.proofs.mark.Worklist.first.Goals as goal

pub loop-q-init : goal.loop-q-init
loop-q-init c = (search rules, rows_start _ _ _ _ c.args.self.now.lent c.requires.0 c.requires.1)
