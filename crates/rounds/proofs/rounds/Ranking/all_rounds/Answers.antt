-- `all_rounds` meets its contract. Assumes nothing.
use Rattle.std.proofs.Common.{◌∙◌, arith}
use Rattle.rounds.proofs.RoundLaws.{ranked_next, rounds_final, rounds_reach, rounds_last, rounds_fewer, rounds_count}
use Rattle.rounds.proofs.rounds.Ranking.all_rounds.Goals as goal

pub rounds-preserved : goal.rounds-preserved
rounds-preserved c =
    let v = c.rounds.invariant in
    let h = v.2 in
    let r = c.round.ensures.0 in
    let d = rw h.sized at r.ranks in
    let a = rw h.sized at c.round.ensures.1 in
    let t = c.if-not-round.false in
    let s = c.first_round.new.self.sized.now.fits.all_nodes in (
      omega arith,
      rounds_count _ _ _ _ _ s _ h.ranks d a t v.1,
      record { sized = r.sized ∙ h.sized; buffer = r.buffer ∙ h.buffer; ranks = ranked_next _ _ h.ranks d },
      rounds_reach _ _ _ _ _ s _ h.ranks d a t,
    )

pub rounds-smaller : goal.rounds-smaller
rounds-smaller c =
    let h = c.rounds.invariant.2 in
    let r = c.round.ensures.0 in
    let d = rw h.sized at r.ranks in
    let a = rw h.sized at c.round.ensures.1 in
    rounds_fewer _ _ _ _ _ c.first_round.new.self.sized.now.fits.all_nodes _ h.ranks d a c.if-not-round.false

pub returns : goal.returns
returns c =
    let f = c.first_round.ensures in
    let v = c.rounds.invariant in
    let h = v.2 in
    let r = c.round.ensures.0 in
    let d = rw h.sized at r.ranks in
    let a = rw h.sized at c.round.ensures.1 in
    let t = c.if-not-round.true in
    let s = c.first_round.new.self.sized.now.fits.all_nodes in (
      record {
        sized = r.sized ∙ h.sized ∙ f.sized;
        buffer = r.buffer ∙ h.buffer ∙ f.buffer;
        ranks = rw (← f.sized) (rounds_final _ _ _ _ _ s _ h.ranks d a v.0 t);
      },
      rounds_last _ _ _ _ _ s _ h.ranks d a v.0 t v.3,
    )
