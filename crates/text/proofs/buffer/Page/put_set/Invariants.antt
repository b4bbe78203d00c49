-- `put_set` has written the actions as far as its loop has come. Assumes nothing.
use Rattle.text.specs.Page.{Puts, texts_from}
use Rattle.text.specs.Fields.{action_text}
use Rattle.text.proofs.buffer.Page.put_set.Given as goal

abbrev pub invariant-loop-c : goal.invariant-loop-c
invariant-loop-c l = Puts l.initial.page (texts_from (action_text l.mask) 0 l.c) l.page
