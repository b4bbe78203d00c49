-- `list` meets its contract: the place after a text is within the buffer. Assumes nothing.
use lib.ListN.{length}
use borrow.Author.Rules.{rules}
use Rattle.lister.specs.Listing.{text_with}
use Rattle.lister.proofs.InputLaws.{within_parts}
use Rattle.lister.proofs.list.Goals as goal

pub returns-clause-counts : goal.returns-clause-counts
returns-clause-counts c =
    within_parts (text_with c.args.sheet.now (length c.args.masks.now) (length c.args.ranks.now)) c.args.out.now _ _ (search rules)
