-- `list_into` meets its contract. Assumes nothing.
use Rattle.lister.proofs.ProgramLaws.{whole_size, whole_text}
use borrow.Author.Rules.{rules}
use Rattle.lister.proofs.list_into.Goals as goal

pub returns : goal.returns
returns c =
    let e = c.list.ensures.text in
    record {
      size = whole_size _ _ _ _ (search rules) e;
      text = whole_text _ _ _ _ (search rules) e;
      counts = search rules;
    }
