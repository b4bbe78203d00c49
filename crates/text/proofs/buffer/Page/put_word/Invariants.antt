-- `put_word` has written the digits as far as its loop has come. Assumes nothing.
use Rattle.text.specs.Page.{Puts, texts_from}
use Rattle.text.specs.Fields.{digit_text}
use Rattle.text.proofs.buffer.Page.put_word.Given as goal

abbrev pub invariant-loop-i : goal.invariant-loop-i
invariant-loop-i l = Puts l.initial.page (texts_from (digit_text l.form.actions l.form.count l.word) 0 l.i) l.page
