-- `strike_sources` meets its contract. Assumes nothing.
use Rattle.prune.specs.code.Views.{Goes}
use Rattle.prune.proofs.cut.Pruning.strike_sources.Given as goal

abbrev pub invariant-loop-q : goal.invariant-loop-q
invariant-loop-q l = Goes l.initial.self l.self
