-- `round` meets its contract. The nodes passed have the next round's ranks, the others the old ones. Assumes nothing.
use Rattle.std.proofs.Common.{◌≡◌}
use Rattle.theory.specs.Fold.{any_below}
use Rattle.theory.specs.Rounds.{rank_in}
use Rattle.walk.specs.code.Arenas.{arena_in}
use Rattle.rounds.specs.code.Falling.{falls_next}
use Rattle.rounds.specs.code.Views.{Holds}
use Rattle.theory.proofs.Filling.{filled}
use Rattle.rounds.proofs.rounds.Ranking.round.Given as goal

abbrev pub invariant-loop-k : goal.invariant-loop-k
invariant-loop-k l =
    let w = l.initial.self in
    let E = arena_in w.sized.now.arena.now in
    Holds w (filled (rank_in E l.n w.ranks.now) l.k w.ranks.now) l.self × (l.any ≡ any_below (falls_next E l.n w.ranks.now) l.k)
