-- `act_with` meets its contract, by the laws of CallLaws.antt. Assumes nothing.
use Rattle.sheet.specs.Form.{part_at}
use Rattle.controller.proofs.CallLaws.{act_laws, slot_found, acts_late}
use Rattle.controller.proofs.calls.act_with.Goals as goal

pub take_turn-requires-2 : goal.take_turn-requires-2
take_turn-requires-2 c = search act_laws

pub returns : goal.returns
returns c =
    acts_late c.args.l (part_at c.args.sheet.now c.args.l.flags) (part_at c.args.sheet.now c.args.l.masks) c.args.s _ c.state_ok.ensures
    c.if-not-state_ok.false c.if-s-eq-LAST_TURN.false _ c.from-delay.ensures c.if-s-delay.false
    _ (slot_found _ _ _ _ _ c.observed.ensures c.ok_or.ensures.value c.in_ok-position.was) _ c.part-2.ensures
    _ c.mask_at-mask.ensures _ _ c.if-mask-eq0.false c.requires c.lowest.ensures c.take_turn-2.ensures
