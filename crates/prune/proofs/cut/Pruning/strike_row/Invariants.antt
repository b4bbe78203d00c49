-- `strike_row` meets its contract. Assumes nothing.
use Rattle.prune.specs.code.Views.{Goes}
use Rattle.prune.proofs.cut.Pruning.strike_row.Given as goal

abbrev pub invariant-loop-h : goal.invariant-loop-h
invariant-loop-h l = Goes l.initial.self l.self
