-- `first_row` meets its contract. The nodes passed are placed. Assumes nothing.
use Rattle.solver.specs.code.Views.{Same, PlacedTo}
use Rattle.solver.proofs.mark.Worklist.first_row.Given as goal

abbrev pub invariant-loop-k : goal.invariant-loop-k
invariant-loop-k l = Same l.initial.self l.self × PlacedTo l.sized.arena.now l.full l.k l.self
