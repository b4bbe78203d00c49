-- `round` meets its contract. The nodes passed have the next round's ranks, the others the old ones. Assumes nothing.
use Rattle.std.proofs.Common.{◌∙◌, arith}
use Rattle.rounds.proofs.RoundLaws.{round_fell, round_kept, any_fell, any_kept, any_over, round_done}
use Rattle.rounds.proofs.rounds.Ranking.round.Goals as goal
use Rattle.rounds.proofs.rounds.Ranking.round.Goals.{then-falls_now, else-falls_now}

pub loop-k-preserved : goal.loop-k-preserved
loop-k-preserved c =
    let i = c.requires in
    let v = c.loop-k.invariant in
    let h = v.0 in
    let r = rw h.sized at c.falls_now.ensures in
    elim c.if-falls_now.branch [
      | then-falls_now w ↦ (
        rw w.self-is (record { sized = h.sized; buffer = h.buffer; ranks = round_fell _ _ _ _ i.0 i.1 h.ranks r w.if-falls_now.true (omega arith) }),
        w.any-is ∙ any_fell _ _ _ _ i.0 i.1 h.ranks r w.if-falls_now.true,
      )
      | else-falls_now w ↦ (
        rw w.self-is (record { sized = h.sized; buffer = h.buffer; ranks = round_kept _ _ _ _ i.0 i.1 h.ranks r w.if-falls_now.false (omega arith) }),
        w.any-is ∙ any_kept _ _ _ _ i.0 i.1 h.ranks r v.1 w.if-falls_now.false,
      )
    ]

pub returns : goal.returns
returns c =
    let v = c.loop-k.invariant in
    let h = v.0 in
    let w = c.args.self.now in (
      record { sized = h.sized; buffer = h.buffer; ranks = round_done _ _ _ _ _ _ c.loop-k.k _ h.ranks w.nodes (omega arith) (omega arith) w.sized.now.fits.all_nodes },
      any_over _ v.1 (omega arith) (omega arith),
    )
