-- `skip_below` meets its contract, by the law of a search over a range. Assumes nothing.
use mathlib.Core.Path.{◌∙◌, refl}
use Rattle.std.proofs.Common.{rules, tests}
use Rattle.sheet.specs.code.Arrays.{from_below}
use Rattle.sheet.proofs.ChainLaws.{find_from}
use Rattle.sheet.proofs.MoveLaws.{line_found}
use Rattle.sheet.proofs.moves.skip_below.Goals as goal

pub returns : goal.returns
unfolding from_below
returns c =
    c.unwrap_or.ensures
    ∙ line_found c.args.u.now c.args.q c.line_count-n.ensures
    (find_from _ (from_below c.args.u.now c.args.q) c.args.from _ refl c.requires.1 c.find.ensures.ran (λ x b q k. search (rules, tests)))
