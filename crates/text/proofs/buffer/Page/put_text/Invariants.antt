-- `put_text` has written the text as far as its loop has come. Assumes nothing.
use lib.ListN.{take}
use Rattle.text.specs.Page.{Puts}
use Rattle.text.proofs.buffer.Page.put_text.Given as goal

abbrev pub invariant-loop-byte : goal.invariant-loop-byte
invariant-loop-byte l = Puts l.initial.page (take l.byte-index l.text) l.page
