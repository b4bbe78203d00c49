-- `block` meets its contract. What is left to block from here on is all that was to be blocked. Assumes nothing.
use Rattle.std.proofs.Common.{rules}
use Rattle.solver.proofs.MarkLaws.{steps_again, steps_end}
use Rattle.solver.proofs.block.Rows.block.Goals as goal

pub loop-b-preserved : goal.loop-b-preserved
loop-b-preserved c = (search rules, steps_again _ _ _ _ c.loop-b.invariant.1 c.loop-b-test.true c.block_row.ensures.1)

pub returns : goal.returns
returns c = (c.loop-b.invariant.0, steps_end _ _ _ _ c.loop-b.invariant.1 c.loop-b-test.false)
