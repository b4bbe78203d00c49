-- `fill_closed` meets its contract. Assumes nothing.
use mathlib.Core.Path.{◌≡◌}
use Rattle.theory.proofs.Filling.{filled}
use Rattle.notice.specs.code.Closed.{closed_at}
use Rattle.notice.proofs.closing.Notice.fill_closed.Given as goal

abbrev pub invariant-loop-q : goal.invariant-loop-q
invariant-loop-q l = l.to ≡ filled (closed_at l.p l.self.positions.now) l.q l.initial.to
