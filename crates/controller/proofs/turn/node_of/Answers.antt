-- `node_of` meets its contract: its loop yields the n newest actions, the oldest first. Assumes nothing.
use Rattle.std.proofs.Common.{arith, rules, take}
use Rattle.std.proofs.lemmas.Iterator.Adapters.{YieldsList-from_rev_slice}
use Rattle.std.proofs.lemmas.Iterator.Consumers.{YieldsList-turn, YieldsList-end}
use Rattle.controller.proofs.ActionLaws.{along_fits, along_end}
use Rattle.controller.proofs.turn.node_of.Goals as goal

pub overflow_mul-node : goal.overflow_mul-node
overflow_mul-node c =
    let t = YieldsList-turn (YieldsList-from_rev_slice (take c.args.n c.args.last) cc) c.loop-action.yielded _ c.loop-action.yielded_by _ _ c.in-Some.field-0 c.in-Some.is c.next.ensures.steps in
    record { fits = omega (arith, along_fits _ _ c.from-base.result 0 c.loop-action.invariant.small (search rules) (omega arith) c.args.n c.args.last c.requires t.0) }

pub overflow_add-node : goal.overflow_add-node
overflow_add-node c =
    let t = YieldsList-turn (YieldsList-from_rev_slice (take c.args.n c.args.last) cc) c.loop-action.yielded _ c.loop-action.yielded_by _ _ c.in-Some.field-0 c.in-Some.is c.next.ensures.steps in
    record { fits = omega (arith, along_fits _ _ c.from-base.result c.from.result c.loop-action.invariant.small (search rules) (search rules) c.args.n c.args.last c.requires t.0) }

pub returns : goal.returns
returns c =
    let t = YieldsList-end (YieldsList-from_rev_slice (take c.args.n c.args.last) cc) c.loop-action.yielded _ c.loop-action.yielded_by _ _ c.in-None.is c.next.ensures.steps in
    along_end _ _ c.args.n _ c.args.last _ (search rules) t.0 c.loop-action.invariant.is
