-- `sweep_all` meets its contract. Assumes nothing.
use Rattle.prune.specs.code.Pruning.{total}
use Rattle.prune.specs.code.Views.{Goes}
use Rattle.prune.proofs.cut.Pruning.sweep_all.Given as goal

abbrev pub invariant-loop : goal.invariant-loop
invariant-loop l = Goes l.initial.self l.self

abbrev pub decreases-loop : goal.decreases-loop
decreases-loop l = total l.self.masks.now
