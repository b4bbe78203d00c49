-- `make` meets its contract, by the laws of AnswerLaws.antt. Assumes nothing.
use Rattle.std.proofs.lemmas.Result.{err_from_is_err_and}
use Rattle.maker.proofs.AnswerLaws.{refuses, reading_refused, read_small, room_refused, room_ready, room_makes}
use Rattle.maker.proofs.making.make.Goals as goal

pub returns-in_default : goal.returns-in_default
returns-in_default c = refuses _ _ _ (reading_refused _ _ c.read-reading.ensures _ _ _ _ c.unwrap_err.ensures) _ _ _ _ _

pub invariant_of-small : goal.invariant_of-small
invariant_of-small c =
    let h = read_small _ _ c.read-reading.ensures _ c.in-Ok.is in
    record { some_position = h.some_position; few_positions = h.few_positions; few_actions = h.few_actions; short_delay = h.short_delay }

pub returns-in_err-check_room : goal.returns-in_err-check_room
returns-in_err-check_room c =
    let p = err_from_is_err_and c.from_residual.result c.from_residual.ensures.1 in
    rw (p.1, p.2)
    (refuses _ _ _ (room_refused _ _ c.read-reading.ensures _ c.in-Ok.is _ _ _ _ c.check_room.ensures _ c.in_err-check_room.was) _ _ _ _ _)

pub make_read-requires : goal.make_read-requires
make_read-requires c = room_ready _ _ c.read-reading.ensures _ c.in-Ok.is _ _ _ _ c.check_room.ensures _ c.in_ok-check_room.was

pub returns : goal.returns
returns c =
    room_makes _ _ c.read-reading.ensures _ c.in-Ok.is c.args.masks.now c.args.ranks.now c.args.out.now _ c.check_room.ensures _ c.in_ok-check_room.was
    _ _ _ _ _ _ _ c.make_read.ensures.answer c.make_read.ensures.masks c.make_read.ensures.ranks c.make_read.ensures.output
