-- `mark_callers` meets its contract. What is to be marked from here on is all that was to be marked. Assumes nothing.
use Rattle.std.proofs.Common.{◌≡◌, map}
use Rattle.solver.specs.code.Chains.{chain}
use Rattle.solver.specs.code.Work.{marks_to}
use Rattle.solver.specs.code.Spread.{caller_at}
use Rattle.solver.specs.code.Views.{listed, spotted, callers_of, Same}
use Rattle.solver.proofs.index.Index.mark_callers.Given as goal

abbrev pub invariant-loop-x : goal.invariant-loop-x
invariant-loop-x l =
    Same l.initial.work l.work
    × (marks_to l.spot.round.n l.spot.action (listed l.initial.work) (callers_of l.self l.spot l.t)
    ≡ marks_to l.spot.round.n l.spot.action (listed l.work) (map (caller_at (spotted l.spot)) (chain l.x-iterator.links.now l.x-iterator.at)))
