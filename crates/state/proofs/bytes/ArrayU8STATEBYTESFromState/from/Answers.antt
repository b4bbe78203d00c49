-- A state's bytes are made one by one. Assumes nothing.
use Rattle.std.proofs.Common.{rules, get_or, ◌∙◌}
use Rattle.state.specs.StateBytes.{state_bytes, encode_state}
use Rattle.sheet.proofs.ChainLaws.{made_is}
use Rattle.state.proofs.ByteLaws.{encoded_whole}
use Rattle.state.proofs.bytes.ArrayU8STATEBYTESFromState.from.Goals as goal

pub returns : goal.returns
returns c =
    made_is _ (λ i. get_or (encode_state c.args.s) i 0) _ _ 0 state_bytes (λ i y q l k. search rules) c.from_fn.ensures.items ∙ encoded_whole c.args.s
