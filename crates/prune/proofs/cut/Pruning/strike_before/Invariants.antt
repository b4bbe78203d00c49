-- `strike_before` meets its contract. Assumes nothing.
use Rattle.prune.specs.code.Views.{Goes}
use Rattle.prune.proofs.cut.Pruning.strike_before.Given as goal

abbrev pub invariant-loop-s : goal.invariant-loop-s
invariant-loop-s l = Goes l.initial.self l.self
