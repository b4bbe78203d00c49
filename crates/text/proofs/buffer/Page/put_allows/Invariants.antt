-- What `put_allows` has `put_lines` write of each entry. Assumes nothing.
use Rattle.text.specs.Lines.{allow_entry}
use Rattle.text.specs.contracts.buffer.fn.Page.put_allows.put_lines as closure
use Rattle.text.proofs.buffer.Page.put_allows.Given as goal

abbrev pub ghost-put_lines : goal.ghost-put_lines
ghost-put_lines a = let f = (closure.captures a.put).form in allow_entry f.actions f.count
