-- `spread_odd` meets its contract. What is to be marked from here on is all that was to be marked. Assumes nothing.
use Rattle.std.proofs.Common.{◌≡◌, ◌/◌}
use Rattle.sheet.specs.Limits.{most_actions}
use Rattle.solver.specs.code.Chains.{chain}
use Rattle.solver.specs.code.Work.{marks_to}
use Rattle.solver.specs.code.Spread.{word_at, gather}
use Rattle.solver.specs.code.Views.{listed, odd_nodes_of, sources_of, spotted, Same}
use Rattle.solver.proofs.index.Index.spread_odd.Given as goal

abbrev pub invariant-loop-x : goal.invariant-loop-x
invariant-loop-x l =
    Same l.initial.work l.work
    × (marks_to l.spot.round.n l.spot.action (listed l.initial.work) (odd_nodes_of l.self l.spot l.q)
    ≡ marks_to l.spot.round.n l.spot.action (listed l.work)
    (gather (λ x. sources_of l.self l.spot (word_at (spotted l.spot) x) (x / most_actions)) (chain l.x-iterator.links.now l.x-iterator.at)))
