-- `prune` meets its contract. Assumes nothing.
use Rattle.prune.proofs.PruneCode.{start_sized, start_nodes, start_room, start_shown}
use Rattle.prune.proofs.prune.prune.Goals as goal

pub invariant_of-pruning-clause-sized : goal.invariant_of-pruning-clause-sized
invariant_of-pruning-clause-sized c = start_sized _ _ _ c.is_fitted.ensures c.if-not-is_fitted.false

pub invariant_of-pruning-clause-nodes : goal.invariant_of-pruning-clause-nodes
invariant_of-pruning-clause-nodes c = start_nodes _ _ _ c.is_fitted.ensures c.if-not-is_fitted.false

pub invariant_of-pruning-clause-marks_room : goal.invariant_of-pruning-clause-marks_room
invariant_of-pruning-clause-marks_room c = start_room _ _ _ _ c.is_fitted.ensures c.if-not-is_fitted.false c.fill_marks.ensures

pub invariant_of-pruning-clause-shown : goal.invariant_of-pruning-clause-shown
invariant_of-pruning-clause-shown c = start_shown _ _ _ _ c.is_fitted.ensures c.if-not-is_fitted.false c.fill_marks.ensures
