-- `any_good` meets its contract. Assumes nothing.
use Rattle.std.proofs.Common.{rules, refl, ap, ◌∙◌}
use Rattle.theory.specs.Fold.{any_below}
use Rattle.sheet.proofs.ChainLaws.{any_indices}
use Rattle.region.specs.code.Kept.{good}
use Rattle.region.proofs.words.SizedKept.any_good.Goals as goal

pub returns : goal.returns
returns c =
    let w = c.args.self.now.kept.now in
    any_indices (good w) _ refl c.any.ensures.ran (λ x b q k. search rules) ∙ ap (any_below (good w)) c.words.ensures
