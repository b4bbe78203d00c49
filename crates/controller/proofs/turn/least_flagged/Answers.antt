-- `least_flagged` meets its contract, by the law of the search. Assumes nothing.
use Rattle.std.proofs.Common.{rules, tests, ◌∙◌, ap}
use Rattle.std.specs.Prelude.{unwrap_or}
use Rattle.std.proofs.lemmas.Iterator.{YieldsList-from_slice}
use Rattle.std.proofs.lemmas.Iterator.Search.{position_from_yields_List}
use Rattle.controller.proofs.ActionLaws.{is_set, least_is}
use Rattle.controller.proofs.turn.least_flagged.Goals as goal

pub returns : goal.returns
returns c =
    c.unwrap_or.ensures
    ∙ ap (unwrap_or c.position.result) c.saturating_sub.ensures
    ∙ least_is c.args.w.now c.position.result
    (position_from_yields_List is_set _ _ _ c.position.ensures.ran (YieldsList-from_slice c.args.w.now cc) (λ x b q k. search (rules, tests)))
