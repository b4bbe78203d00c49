-- `first_wrong` meets its contract, by the law of a search over a range. Assumes nothing.
use mathlib.Core.Path.{refl}
use borrow.Author.Rules.{rules}
use Rattle.sheet.proofs.ChainLaws.{find_index}
use Rattle.judge.specs.code.Tests.{flag_stands, first_failing}
use Rattle.judge.proofs.judging.first_wrong.Goals as goal

pub returns : goal.returns
unfolding first_failing
returns c = find_index _ (flag_stands c.args.flags.now c.args.good.now) _ refl c.find.ensures.ran (λ x b q k. search rules)
