-- `first_row` meets its contract. The nodes passed are placed. Assumes nothing.
use Rattle.std.proofs.Common.{rules}
use Rattle.solver.proofs.FirstLaws.{row_fallen, row_stands}
use Rattle.solver.proofs.mark.Worklist.first_row.Goals as goal
use Rattle.solver.proofs.mark.Worklist.first_row.Goals.{then-falls, else-falls}

pub loop-k-preserved : goal.loop-k-preserved
loop-k-preserved c = let l = c.loop-k in
    let f = c.row_falls-falls.ensures in
    let m = c.row_mask-mask.ensures in
    elim c.if-falls.branch [
      | then-falls w ↦
          rw w.self-is
          (search rules, row_fallen c.args.sized.now.fits c.requires.0 l.auto.k c.loop-k-test.true l.invariant.1 f m w.if-falls.true)
      | else-falls w ↦
          rw w.self-is
          (search rules, row_stands c.args.sized.now.fits c.requires.0 l.auto.k c.loop-k-test.true l.invariant.1 f m w.if-falls.false)
    ]
