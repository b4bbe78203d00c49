-- `closes` meets its contract. Assumes nothing.
use mathlib.Core.Path.{◌∙◌}
use lib.Dec.{eqb}
use borrow.Author.Rules.{rules}
use Rattle.std.proofs.lemmas.Iterator.{YieldsList-from_slice}
use Rattle.std.proofs.lemmas.Iterator.Search.{any_from_yields_List}
use Rattle.notice.proofs.CloseLaws.{any_listed}
use Rattle.notice.proofs.closing.Notice.closes.Goals as goal

pub returns : goal.returns
returns c =
    any_from_yields_List (eqb c.args.q) _ _ _ c.any.ensures.ran (YieldsList-from_slice _ c.iter.ensures.rest) (λ x b q k. search rules)
    ∙ any_listed c.args.self.now.positions.now c.args.q
