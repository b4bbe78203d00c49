-- `search` meets its contract. Every delay below d wins, and nothing beyond the nodes of delay d has changed. Assumes nothing.
use Rattle.std.proofs.Common.{rules}
use Rattle.solver.proofs.SearchLaws.{arena_same, searched_start, beyond_start, level_can, front_length, searched_next, beyond_next, inside, upward}
use Rattle.solver.proofs.delays.search.Goals as goal
use Rattle.solver.proofs.delays.search.Goals.{then-not-wins-via-then-not-wins, then-not-wins-via-else-not-wins+then-d-game}

pub delays-init : goal.delays-init
delays-init c = search (rules, searched_start, beyond_start)

pub delays-preserved : goal.delays-preserved
delays-preserved c = (search (rules, arena_same, searched_next), search (rules, beyond_next), search (rules, beyond_next))

pub solve_level-rounds-requires : goal.solve_level-rounds-requires
solve_level-rounds-requires c = search (rules, level_can, front_length)

pub slice_bounds-solve_level-end : goal.slice_bounds-solve_level-end
slice_bounds-solve_level-end c = search inside

pub slice_bounds-solve_level-end-in-delays : goal.slice_bounds-solve_level-end-in-delays
slice_bounds-solve_level-end-in-delays c = search inside

pub slice_bounds-solve_level-end-in-delays-2 : goal.slice_bounds-solve_level-end-in-delays-2
slice_bounds-solve_level-end-in-delays-2 c = search inside

pub slice_bounds-solve_level-end-in-delays-3 : goal.slice_bounds-solve_level-end-in-delays-3
slice_bounds-solve_level-end-in-delays-3 c = search inside

pub slice_bounds-kept-end : goal.slice_bounds-kept-end
slice_bounds-kept-end c = search inside

pub slice_bounds-kept-end-in-delays : goal.slice_bounds-kept-end-in-delays
slice_bounds-kept-end-in-delays c = search inside

pub returns : goal.returns
returns c =
    elim c.then-not-wins.branch [
      | then-not-wins-via-then-not-wins w ↦ search upward
      | then-not-wins-via-else-not-wins+then-d-game w ↦ search upward
    ]
