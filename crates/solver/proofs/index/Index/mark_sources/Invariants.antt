-- `mark_sources` meets its contract. What is to be marked from here on is all that was to be marked. Assumes nothing.
use Rattle.std.proofs.Common.{◌≡◌, map}
use Rattle.solver.specs.code.Chains.{chain}
use Rattle.solver.specs.code.Work.{marks_to}
use Rattle.solver.specs.code.Spread.{source_at}
use Rattle.solver.specs.code.Views.{listed, spotted, sources_of, Same}
use Rattle.solver.proofs.index.Index.mark_sources.Given as goal

abbrev pub invariant-loop-i : goal.invariant-loop-i
invariant-loop-i l =
    Same l.initial.work l.work
    × (marks_to l.spot.round.n l.spot.action (listed l.initial.work) (sources_of l.self l.spot l.word l.q)
    ≡ marks_to l.spot.round.n l.spot.action (listed l.work) (map (source_at l.self.moves.now (spotted l.spot) l.word) (chain l.i-iterator.links.now l.i-iterator.at)))
