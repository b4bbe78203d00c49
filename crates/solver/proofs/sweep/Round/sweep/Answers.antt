-- `sweep` meets its contract. What is left to sweep from here on is all that was to be swept. Assumes nothing.
use Rattle.std.proofs.Common.{rules, arith}
use Rattle.solver.proofs.MarkLaws.{steps_again, steps_end}
use Rattle.solver.proofs.sweep.Round.sweep.Goals as goal

pub loop-at-preserved : goal.loop-at-preserved
loop-at-preserved c = let l = c.loop-at in
    let s = c.in-Some.ensures.steps in (
      search rules,
      c.spread.ensures.notes,
      rw (s.0, s.1.2) (steps_again _ _ _ _ l.invariant.2 (omega (arith, s.1.0)) (rw (← s.1.1, ← c.from-j.ensures) c.spread.ensures.calls.1)),
      search rules,
    )

pub returns : goal.returns
returns c = let l = c.loop-at in
    let s = c.in-None.ensures.steps in
    record { calls = (l.invariant.0, steps_end _ _ _ _ l.invariant.2 (omega (arith, s.1.0))); notes = l.invariant.1 }
