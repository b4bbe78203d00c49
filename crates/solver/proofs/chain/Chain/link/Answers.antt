-- `link` meets its contract. The places passed are linked. Assumes nothing.
use Rattle.std.proofs.Common.{rules}
use Rattle.solver.proofs.ChainLaws.{linked_below, linked_pushed}
use Rattle.solver.proofs.chain.Chain.link.Goals as goal

pub loop-i-init : goal.loop-i-init
loop-i-init g c = (linked_below (λ x. x) 0 _ _ (c.requires.empty _), λ f post. c.requires.empty f)

pub loop-i-preserved : goal.loop-i-preserved
loop-i-preserved g c =
    let l = c.loop-i in
    let p = c.push.ensures in (
      p.below,
      λ f post.
          linked_pushed f l.i l.self.heads l.self.links (l.invariant.1 f post) (search rules) (post _ _ c.loop-i-test.true (search rules)) p.heads p.links,
    )
