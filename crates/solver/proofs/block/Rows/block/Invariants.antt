-- `block` meets its contract. What is left to block from here on is all that was to be blocked. Assumes nothing.
use Rattle.std.proofs.Common.{◌≡◌, ◌-◌}
use Rattle.walk.specs.code.Arenas.{arena_in}
use Rattle.solver.specs.code.Block.{blocks_to}
use Rattle.solver.specs.code.Views.{listed, row_count, Same}
use Rattle.solver.proofs.block.Rows.block.Given as goal

abbrev pub invariant-loop-b : goal.invariant-loop-b
invariant-loop-b l =
    let a = l.self.sized.now.arena.now in
    let rows = row_count a in
    Same l.initial.work l.work
    × (blocks_to (arena_in a) l.self.younger (listed l.initial.work) 0 rows ≡ blocks_to (arena_in a) l.self.younger (listed l.work) l.b (rows - l.b))
