-- `join_targets` meets its contract. The targets of the actions passed have joined. Assumes nothing.
use Rattle.reader.specs.code.Reaching.{Grown, by_action_in}
use Rattle.reader.proofs.reach.Queue.join_targets.Given as goal

abbrev pub invariant-loop-x : goal.invariant-loop-x
invariant-loop-x l = Grown (by_action_in l.grid l.q l.x) l.initial.self l.self
