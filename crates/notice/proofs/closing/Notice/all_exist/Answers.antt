-- `all_exist` meets its contract. Assumes nothing.
use mathlib.Core.Path.{refl}
use lib.Dec.{ltb}
use borrow.Author.Rules.{rules}
use Rattle.table.specs.TableSheet.{below_at, bytes_below}
use Rattle.sheet.proofs.ChainLaws.{all_slice}
use Rattle.notice.proofs.closing.Notice.all_exist.Goals as goal

pub returns : goal.returns
unfolding bytes_below below_at
returns c =
    let n = c.args.self.now.layout.positions.size in
    all_slice (λ x. ltb x n) (below_at n c.args.self.now.positions.now) 0 _ c.iter.ensures.rest (λ k h. refl) c.all.ensures.ran
    (λ x b q k. search rules)
