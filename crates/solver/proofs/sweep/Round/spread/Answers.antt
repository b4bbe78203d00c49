-- `spread` meets its contract. Assumes nothing.
use Rattle.solver.proofs.SeenLaws.{seen_kept}
use Rattle.solver.proofs.sweep.Round.spread.Goals as goal

pub returns-then-self-clause-notes : goal.returns-then-self-clause-notes
returns-then-self-clause-notes c = seen_kept _ _ _ _ c.spread_odd.ensures.1 c.requires
