-- `spoil_row` meets its contract. What is left from here on is all that was to be done. Assumes nothing.
use Rattle.std.proofs.Common.{rules}
use Rattle.solver.proofs.MarkLaws.{steps_again, steps_end}
use Rattle.solver.proofs.mark.Worklist.spoil_row.Goals as goal

pub loop-i-preserved : goal.loop-i-preserved
loop-i-preserved c = (search rules, steps_again _ _ _ _ c.loop-i.invariant.1 c.loop-i-test.true c.spoil_all.ensures.1)

pub returns : goal.returns
returns c = (c.loop-i.invariant.0, steps_end _ _ _ _ c.loop-i.invariant.1 c.loop-i-test.false)
