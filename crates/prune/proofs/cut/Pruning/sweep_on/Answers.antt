-- `sweep_on` meets its contract. Assumes nothing.
use Rattle.prune.proofs.PruneCode.{sweeping_on}
use Rattle.prune.proofs.cut.Pruning.sweep_on.Goals as goal

pub returns-then-not-sweep : goal.returns-then-not-sweep
returns-then-not-sweep c = search sweeping_on

pub returns-then-len : goal.returns-then-len
returns-then-len c = search sweeping_on

pub returns-else-len : goal.returns-else-len
returns-else-len c = search sweeping_on
