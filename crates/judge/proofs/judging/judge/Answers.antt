-- `judge` meets its contract. Assumes nothing.
use Rattle.std.proofs.Common.{arith}
use Rattle.judge.proofs.JudgeLaws.{table_refused}
use Rattle.judge.proofs.judging.judge.Goals as goal

pub returns-in_err-x : goal.returns-in_err-x
returns-in_err-x c =
    let h = table_refused _ _ c.read.result c.read.ensures c.in_ok-l.l c.in_ok-l.was c.read-2.result c.read-2.ensures _ c.in_err-x.was in
    grind (arith, h)
