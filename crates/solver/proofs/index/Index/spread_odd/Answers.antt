-- `spread_odd` meets its contract. What is to be marked from here on is all that was to be marked. Assumes nothing.
use Rattle.std.proofs.Common.{rules}
use Rattle.solver.proofs.SpreadLaws.{gather_step, gather_done}
use Rattle.solver.proofs.index.Index.spread_odd.Goals as goal

pub loop-x-preserved : goal.loop-x-preserved
loop-x-preserved c =
    (search rules, gather_step _ _ _ _ c.loop-x.invariant.1 c.in-Some.ensures.steps.0 (rw (← c.word_at.ensures.0) c.mark_sources.ensures.1))

pub returns : goal.returns
returns c = (c.loop-x.invariant.0, gather_done _ _ _ _ c.loop-x.invariant.1 c.in-None.ensures.steps.0.0)
