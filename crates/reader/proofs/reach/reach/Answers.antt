-- `reach` meets its contract. The moves from the first `done` positions of the queue have been followed. Assumes nothing.
use Rattle.std.proofs.Common.{rules}
use Rattle.reader.proofs.ReachLaws.{queue_empty, reach_start, reach_next}
use Rattle.reader.proofs.reach.reach.Goals as goal

pub loop-done-init : goal.loop-done-init
loop-done-init c = reach_start _ c.requires _ _ _ (search rules) c.join.ensures

pub loop-done-preserved : goal.loop-done-preserved
loop-done-preserved c =
    reach_next _ c.requires _ _ _ _ _ c.loop-done.invariant (rw c.len.ensures.value at c.loop-done-test.true) (search rules) (search rules) c.body-u.ensures c.first_lines-firsts.ensures
    (rw c.deref.ensures.0 at c.from-q.ensures) c.from-in-loop-done.ensures c.from-in-loop-done-2.ensures c.join_targets.ensures c.join_moves.ensures

pub join-requires : goal.join-requires
join-requires c = queue_empty _ c.new.ensures
