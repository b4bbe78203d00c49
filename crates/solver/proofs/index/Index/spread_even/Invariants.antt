-- `spread_even` meets its contract. What is to be marked from here on is all that was to be marked. Assumes nothing.
use Rattle.std.proofs.Common.{◌≡◌, ◌*◌, get_or}
use Rattle.solver.specs.code.Chains.{chain}
use Rattle.solver.specs.code.Work.{marks_to}
use Rattle.solver.specs.code.Spread.{gather}
use Rattle.solver.specs.code.Views.{callers_of, even_nodes_of, listed, Noted, Same}
use Rattle.solver.proofs.index.Index.spread_even.Given as goal

abbrev pub invariant-loop-i : goal.invariant-loop-i
invariant-loop-i l =
    Same l.initial.work l.work
    × Noted l.self l.spot.round.level l.spot.round.younger l.seen l.work
    × (marks_to l.spot.round.n l.spot.action (listed l.initial.work) (even_nodes_of l.self l.spot l.q)
    ≡ marks_to l.spot.round.n l.spot.action (listed l.work)
    (gather (λ i. callers_of l.self l.spot (get_or l.self.moves.now (2 * i) 0)) (chain l.i-iterator.links.now l.i-iterator.at)))
