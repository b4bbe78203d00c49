-- `first_round` meets its contract. The first ranks of the nodes passed are in place. Assumes nothing.
use Rattle.std.proofs.Common.{◌≡◌}
use Rattle.rounds.specs.code.Falling.{first_rank}
use Rattle.theory.proofs.Filling.{filled}
use Rattle.rounds.proofs.rounds.Ranking.first_round.Given as goal

abbrev pub invariant-loop-k : goal.invariant-loop-k
invariant-loop-k l = l.rank-items ≡ filled (first_rank l.sized.arena.now.positions.now l.sized.arena.now.level) l.k l.initial.rank-items
