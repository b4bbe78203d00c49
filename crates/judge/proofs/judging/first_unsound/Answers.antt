-- `first_unsound` meets its contract, by the law of a search over a range. Assumes nothing.
use mathlib.Core.Path.{refl}
use borrow.Author.Rules.{rules}
use Rattle.sheet.proofs.ChainLaws.{find_index}
use Rattle.walk.specs.code.Arenas.{arena_in}
use Rattle.judge.specs.code.Tests.{whole_at, first_failing}
use Rattle.judge.proofs.judging.first_unsound.Goals as goal

pub returns : goal.returns
unfolding first_failing
returns c = find_index _ (whole_at (arena_in c.args.sized.now.arena.now) c.args.marks.now c.args.masks.now) _ refl c.find.ensures.ran (λ x b q k. search rules)
