-- `mark_callers` meets its contract. What is to be marked from here on is all that was to be marked. Assumes nothing.
use Rattle.std.proofs.Common.{rules}
use Rattle.solver.proofs.SpreadLaws.{marks_step, marks_done}
use Rattle.solver.proofs.index.Index.mark_callers.Goals as goal

pub loop-x-preserved : goal.loop-x-preserved
loop-x-preserved c =
    (search rules, marks_step _ _ _ _ c.loop-x.invariant.1 c.in-Some.ensures.steps.0 c.caller_at.ensures c.mark.ensures.1)

pub returns : goal.returns
returns c = (c.loop-x.invariant.0, marks_done _ _ _ _ c.loop-x.invariant.1 c.in-None.ensures.steps.0.0)
