-- `rounds` meets its contract. Assumes nothing.
use Rattle.walk.proofs.NodeLaws.{fitted_entries}
use Rattle.rounds.proofs.rounds.rounds.Goals as goal

pub invariant_of-all_rounds : goal.invariant_of-all_rounds
invariant_of-all_rounds c = record { nodes = fitted_entries _ _ c.is_fitted.ensures c.if-not-is_fitted.false }
