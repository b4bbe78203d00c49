-- `post` meets its contract. Assumes nothing.
use native.Mathlib.Omega.{arith}
use Rattle.notice.proofs.PostLaws.{both_agree, postable, taken_output, unread_output, shapeless_answer, shapeless_output, posted}
use Rattle.notice.proofs.posting.post.Goals as goal

pub returns-in_err-l-clause-output : goal.returns-in_err-l-clause-output
returns-in_err-l-clause-output c =
    unread_output _ _ _ _ _ c.read.ensures _ c.in_err-l.was

pub returns-in_err-x-clause-answer : goal.returns-in_err-x-clause-answer
returns-in_err-x-clause-answer c =
    let h = shapeless_answer _ _ _ c.read.ensures _ c.in_ok-l.was _ c.read_shape.ensures c.args.notice.now c.args.out.now _ c.in_err-x.was in
    grind (arith, h)

pub returns-in_err-x-clause-output : goal.returns-in_err-x-clause-output
returns-in_err-x-clause-output c =
    shapeless_output _ _ _ c.read.ensures _ c.in_ok-l.was _ c.read_shape.ensures _ _ _ c.in_err-x.was

pub post_bodies-requires : goal.post_bodies-requires
post_bodies-requires c =
    let both = both_agree _ _ _ c.read.ensures _ c.in_ok-l.was _ c.read_shape.ensures _ c.in_ok-x.was c.layouts_agree.ensures c.if-not-layouts_agree.false in
    postable _ _ _ _ _ _ both c.all_exist.ensures c.if-not-all_exist.false _ _ c.part-flags.ensures c.part-masks.ensures c.if-out-flags.false

pub returns-clause-answer : goal.returns-clause-answer
returns-clause-answer c = search posted

pub returns-clause-output : goal.returns-clause-output
returns-clause-output c =
    let both = both_agree _ _ _ c.read.ensures _ c.in_ok-l.was _ c.read_shape.ensures _ c.in_ok-x.was c.layouts_agree.ensures c.if-not-layouts_agree.false in
    taken_output _ _ _ _ _ _ both c.all_exist.ensures c.if-not-all_exist.false _ _ c.part-flags.ensures c.part-masks.ensures c.if-out-flags.false c.post_bodies.ensures.1
