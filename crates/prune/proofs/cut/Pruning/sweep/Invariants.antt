-- `sweep` meets its contract. Assumes nothing.
use Rattle.prune.specs.code.Views.{Swept}
use Rattle.prune.proofs.cut.Pruning.sweep.Given as goal

abbrev pub invariant-loop-k : goal.invariant-loop-k
invariant-loop-k l = Swept l.initial.self l.k l.self l.changed
