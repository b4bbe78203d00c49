-- `all_rounds` meets its contract. The ranks are those after round n, in which a node fell if n is over 1, and each further round leaves fewer
-- nodes standing. Assumes nothing.
use Rattle.std.proofs.Common.{◌+◌, ◌≤◌}
use Rattle.theory.specs.Rounds.{ranks_after}
use Rattle.walk.specs.code.Arenas.{arena_in}
use Rattle.rounds.specs.code.Falling.{last_round}
use Rattle.rounds.specs.code.Views.{Holds}
use Rattle.rounds.proofs.RoundLaws.{standing}
use Rattle.rounds.proofs.rounds.Ranking.all_rounds.Given as goal

abbrev pub invariant-rounds : goal.invariant-rounds
invariant-rounds l =
    let a = l.initial.self.sized.now.arena.now in
    (1 ≤ l.n)
    × (l.n + standing l.self.ranks.now a.level.nodes ≤ a.level.nodes + 1)
    × Holds l.initial.self (ranks_after (arena_in a) l.n) l.self
    × (l.n ≤ last_round l.self.ranks.now)

abbrev pub decreases-rounds : goal.decreases-rounds
decreases-rounds l = standing l.self.ranks.now l.initial.self.sized.now.arena.now.level.nodes
