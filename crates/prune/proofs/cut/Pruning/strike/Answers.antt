-- `strike` meets its contract. Assumes nothing.
use Rattle.prune.proofs.PruneCode.{striking}
use Rattle.prune.proofs.cut.Pruning.strike.Goals as goal

pub returns-then-leads_by : goal.returns-then-leads_by
returns-then-leads_by c = search striking
