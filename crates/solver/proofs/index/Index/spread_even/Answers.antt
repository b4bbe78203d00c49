-- `spread_even` meets its contract. What is to be marked from here on is all that was to be marked. Assumes nothing.
use Rattle.std.proofs.Common.{rules}
use Rattle.solver.proofs.SpreadLaws.{gather_step, gather_done}
use Rattle.solver.proofs.index.Index.spread_even.Goals as goal

pub loop-i-preserved : goal.loop-i-preserved
loop-i-preserved c = (
  search rules,
  c.mark_target.ensures.notes,
  gather_step _ _ _ _ c.loop-i.invariant.2 c.in-Some.ensures.steps.0 (rw (← c.byte.ensures, ← c.from.ensures) c.mark_target.ensures.calls.1),
)

pub returns : goal.returns
returns c = let l = c.loop-i in
    record { calls = (l.invariant.0, gather_done _ _ _ _ l.invariant.2 c.in-None.ensures.steps.0.0); notes = l.invariant.1 }
