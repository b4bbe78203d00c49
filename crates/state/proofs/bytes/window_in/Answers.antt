-- `window_in` meets its contract: its array is made slot by slot. Assumes nothing.
use Rattle.std.proofs.Common.{rules}
use Rattle.state.specs.State.{slots, unknown}
use Rattle.state.specs.StateBytes.{slot_in, window_in}
use Rattle.sheet.proofs.ChainLaws.{made_is}
use Rattle.state.proofs.bytes.window_in.Goals as goal

pub returns : goal.returns
unfolding window_in
returns c = made_is _ (slot_in c.args.b.now) _ _ unknown slots (λ i y q l k. search rules) c.from_fn.ensures.items
