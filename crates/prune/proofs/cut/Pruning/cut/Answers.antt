-- `cut` meets its contract. Assumes nothing.
use Rattle.prune.proofs.PruneCode.{cutting}
use Rattle.prune.proofs.cut.Pruning.cut.Goals as goal

pub returns : goal.returns
returns c = search cutting
