-- `all_rounds` meets its contract. The nodes of rank n are to be swept, and each sweep that is not the last has more nodes fallen. Assumes nothing.
use Rattle.std.proofs.Common.{rules, arith}
use Rattle.solver.proofs.SeenLaws.{seen_none}
use Rattle.solver.proofs.WorkLaws.{start_rounds, round_more, round_next, round_over, next_inside}
use Rattle.solver.proofs.work.all_rounds.Goals as goal

pub rounds-init : goal.rounds-init
rounds-init c = let p = c.requires in (
  search rules,
  start_rounds p.0 c.full_mask.ensures c.first.ensures.1 c.block.ensures.1,
  seen_none p.3,
)

pub rounds-smaller : goal.rounds-smaller
rounds-smaller c = let l = c.rounds in
    let e = c.sweep.ensures.calls.1 in
    let m = round_more c.requires.0 l.invariant.1 e (search rules) in
    let i = next_inside c.requires.0 l.invariant.1 e in
    omega arith

pub rounds-preserved : goal.rounds-preserved
rounds-preserved c = let l = c.rounds in (
  search rules,
  round_next c.requires.0 l.invariant.1 c.sweep.ensures.calls.1 (search rules),
  c.sweep.ensures.notes,
)

pub returns : goal.returns
returns c = let l = c.rounds in
    (search rules, round_over c.requires.0 l.invariant.1 c.sweep.ensures.calls.1 (search rules))
