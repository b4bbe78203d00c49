-- `put_lines` has written the lines as far as its loop has come. Assumes nothing.
use lib.ListN.{take}
use Rattle.text.specs.Page.{Puts, texts_of}
use Rattle.text.proofs.buffer.Page.put_lines.Given as goal

abbrev pub invariant-loop-k : goal.invariant-loop-k
invariant-loop-k g l = Puts l.initial.self (texts_of g.line 0 (take l.k l.entries)) l.self
