-- `search` meets its contract. Every delay below d wins, and nothing beyond the nodes of delay d has changed. Assumes nothing.
use Rattle.std.proofs.Common.{◌-◌, length}
use Rattle.sheet.specs.Size.{nodes_of}
use Rattle.solver.specs.code.Views.{view_in}
use Rattle.solver.proofs.SearchLaws.{Searched, Beyond}
use Rattle.solver.proofs.delays.search.Given as goal

abbrev pub invariant-delays : goal.invariant-delays
invariant-delays l =
    let nodes = nodes_of (length l.game.positions.now) l.game.layout.actions l.d in
    Searched (view_in l.game) l.game.layout.delay l.d × Beyond nodes l.initial.ranks l.ranks × Beyond nodes l.initial.masks l.masks

abbrev pub decreases-delays : goal.decreases-delays
decreases-delays l = l.game.layout.delay - l.d
