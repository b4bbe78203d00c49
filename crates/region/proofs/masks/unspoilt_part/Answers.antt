-- `unspoilt_part` meets its contract. The part has the bits of the actions passed. Assumes nothing.
use Rattle.std.proofs.Common.{◌≡◌, ◌∙◌, ap, not}
use Rattle.region.specs.code.Kept.{remains}
use Rattle.region.proofs.MaskLaws.{bit_in, bit_out, mask_more, mask_fits, spoilt_here, spoilt_nowhere}
use Rattle.region.proofs.masks.unspoilt_part.Goals as goal
use Rattle.region.proofs.masks.unspoilt_part.Goals.{then-left-eq1+in-None, then-left-eq1+in-Some, else-left-eq1}

stays_is : (c : goal.After-from) → c.if-left-eq1.stays ≡ remains c.args.sized.now.arena.now c.args.fallen.now c.args.k c.args.mask c.loop-c.c
stays_is c =
    elim c.if-left-eq1.branch [
      | then-left-eq1+in-None w ↦ w.stays-is ∙ spoilt_nowhere c.args.sized.now c.args.fallen.now c.args.k c.loop-c.c w.in-None.is c.node-node.ensures.exists ∙ bit_in c.args.mask c.loop-c.c w.if-left-eq1.true
      | then-left-eq1+in-Some w ↦ w.stays-is ∙ ap not (w.spoilt.ensures ∙ spoilt_here c.args.sized.now c.args.fallen.now c.args.k c.loop-c.c w.in-Some.is c.node-node.ensures.same) ∙ bit_in c.args.mask c.loop-c.c w.if-left-eq1.true
      | else-left-eq1 w ↦ w.stays-is ∙ bit_out c.args.mask c.loop-c.c _ w.if-left-eq1.false
    ]

pub overflow_add-part : goal.overflow_add-part
overflow_add-part c =
    mask_fits _ c.loop-c.c c.loop-c-test.true c.args.sized.now.fits.few_actions c.loop-c.invariant c.from.ensures (stays_is c)

pub loop-c-preserved : goal.loop-c-preserved
loop-c-preserved c =
    mask_more _ c.loop-c.c c.loop-c-test.true c.args.sized.now.fits.few_actions c.loop-c.invariant c.from.ensures (stays_is c)
