-- `put_lines` writes what its caller says that each call writes. Assumes nothing.
use native.Mathlib.Omega.{arith}
use Rattle.text.proofs.Page.{entry_next}
use Rattle.text.proofs.buffer.Page.put_lines.Goals as goal

pub loop-k-preserved : goal.loop-k-preserved
loop-k-preserved g c =
    entry_next g.line c.args.entries.now c.loop-k.k c.index-entries-k.result (omega arith) c.index-entries-k.is c.loop-k.invariant
    (c.requires.1.1.1 _ _ _ _ c.put.ensures)
