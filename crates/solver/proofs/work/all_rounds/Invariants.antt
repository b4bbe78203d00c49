-- `all_rounds` meets its contract. The nodes of rank n are to be swept, and each sweep that is not the last has more nodes fallen. Assumes nothing.
use Rattle.std.proofs.Common.{◌-◌}
use Rattle.walk.specs.code.Arenas.{arena_in}
use Rattle.solver.specs.code.Views.{listed, Noted, Same}
use Rattle.solver.proofs.WorkLaws.{Rounding}
use Rattle.solver.proofs.work.all_rounds.Given as goal

abbrev pub invariant-rounds : goal.invariant-rounds
invariant-rounds l =
    Same l.fn.work l.work
    × Rounding (arena_in l.fn.arena) l.n l.lo l.hi (listed l.work)
    × Noted l.index l.fn.arena.level l.younger l.seen l.work

abbrev pub decreases-rounds : goal.decreases-rounds
decreases-rounds l = l.fn.arena.level.nodes - l.hi
