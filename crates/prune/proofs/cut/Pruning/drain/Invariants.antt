-- `drain` meets its contract. Assumes nothing.
use Prim.Native.Nat.{◌-◌}
use Rattle.sheet.specs.Limits.{most_nodes}
use Rattle.prune.specs.code.Views.{Goes}
use Rattle.prune.proofs.cut.Pruning.drain.Given as goal

abbrev pub invariant-loop-at : goal.invariant-loop-at
invariant-loop-at l = Goes l.initial.self l.self

-- the queue has room for fewer
abbrev pub decreases-loop-at : goal.decreases-loop-at
decreases-loop-at l = most_nodes - l.at
