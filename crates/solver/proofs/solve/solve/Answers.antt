-- `solve` meets its contract. Assumes nothing.
use Rattle.std.proofs.Common.{rules}
use Rattle.solver.proofs.SolveLaws.{taken, masks_kept, ranks_kept, refuses_short, fillable_read, solves_won, solves_lost}
use Rattle.reader.proofs.Accepted.{read_accepted}
use Rattle.solver.proofs.solve.solve.Goals as goal

pub returns-then-room-level : goal.returns-then-room-level
returns-then-room-level c =
    let k = refuses_short _ c.in-Ok.l (search (rules, read_accepted)) _ c.part-positions.ensures _ c.level_at-level.ensures _ _ c.min-room.ensures c.if-room-level.true in
    record { answer = k; masks = masks_kept _ k _; ranks = ranks_kept _ k _ }

pub fill-stop-requires : goal.fill-stop-requires
fill-stop-requires c = fillable_read c.args.sheet.now c.in-Ok.l c.of-game.result c.level_at-level.result (search (rules, taken)) _ _ c.min-room.ensures c.if-room-level.false

pub returns-then-stop : goal.returns-then-stop
returns-then-stop c =
    solves_won _ c.in-Ok.l c.of-game.result c.level_at-level.result (search (rules, taken)) _ _ c.min-room.ensures c.if-room-level.false _ _ _ c.fill-stop.ensures c.if-stop.true

pub returns : goal.returns
returns c =
    solves_lost _ c.in-Ok.l c.of-game.result c.level_at-level.result (search (rules, taken)) _ _ c.min-room.ensures c.if-room-level.false _ _ _ c.fill-stop.ensures c.if-stop.false
