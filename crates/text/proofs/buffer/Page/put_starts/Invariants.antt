-- What `put_starts` has `put_lines` write of each entry. Assumes nothing.
use Rattle.text.specs.Lines.{start_entry}
use Rattle.text.specs.contracts.buffer.fn.Page.put_starts.put_lines as closure
use Rattle.text.proofs.buffer.Page.put_starts.Given as goal

abbrev pub ghost-put_lines : goal.ghost-put_lines
ghost-put_lines a = let f = (closure.captures a.put).form in start_entry f.actions f.count
