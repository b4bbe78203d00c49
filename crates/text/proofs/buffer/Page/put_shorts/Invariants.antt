-- `put_shorts` has written the numbers as far as its loop has come. Assumes nothing.
use Rattle.text.specs.Page.{Puts, texts_from}
use Rattle.text.specs.Numbers.{short_at}
use Rattle.text.proofs.buffer.Page.put_shorts.Given as goal

abbrev pub invariant-loop-number : goal.invariant-loop-number
invariant-loop-number l = Puts l.initial.self (texts_from (short_at l.numbers) 0 l.number-index) l.self
