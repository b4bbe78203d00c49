-- `shifted` meets its contract: its array is made slot by slot. Assumes nothing.
use Rattle.std.proofs.Common.{rules}
use Rattle.state.specs.State.{slots, unknown, shifted_at, shifted}
use Rattle.sheet.proofs.ChainLaws.{made_is}
use Rattle.state.proofs.state.shifted.Goals as goal

pub returns : goal.returns
unfolding shifted
returns c = made_is _ (shifted_at c.args.delay c.args.window) _ _ unknown slots (λ i y q l k. search rules) c.from_fn.ensures.items
