-- `first` meets its contract. The nodes of the positions passed are placed. Assumes nothing.
use Rattle.std.proofs.Common.{◌*◌}
use Rattle.solver.specs.code.Views.{Same, PlacedTo}
use Rattle.solver.proofs.mark.Worklist.first.Given as goal

abbrev pub invariant-loop-q : goal.invariant-loop-q
invariant-loop-q l = Same l.initial.self l.self × PlacedTo l.sized.arena.now l.full (l.q * l.sized.arena.now.level.words) l.self
