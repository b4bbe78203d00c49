-- `node_of` meets its contract: at the head of its loop the node is that of the actions from k on. Assumes nothing.
use Rattle.std.proofs.Common.{◌+◌, ◌^◌, ◌<◌, ◌≡◌, length, map}
use Rattle.controller.proofs.ActionLaws.{node_along}
use Rattle.controller.proofs.turn.node_of.Given as goal

abbrev pub invariant-loop-action : goal.invariant-loop-action
invariant-loop-action l = record {
  is : l.node ≡ node_along l.actions l.position (map (λ x. x.now) l.yielded);
  small : l.node < 256 ^ (length l.yielded + 1);
}
