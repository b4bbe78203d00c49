-- `sweep` meets its contract. Assumes nothing.
use Rattle.prune.proofs.PruneCode.{sweeping}
use Rattle.prune.proofs.cut.Pruning.sweep.Goals as goal

pub loop-k-init : goal.loop-k-init
loop-k-init c = search sweeping

pub loop-k-preserved : goal.loop-k-preserved
loop-k-preserved c = search sweeping
