-- What a method leaves of the code's struct. What holds of every value of it are its ghost fields (src/rounds.rt). Assumes nothing.
use Rattle.std.specs.Prelude.{ℕ, ◌≡◌, Bool, List}
use Rattle.theory.specs.Fold.{tabulate, any_below}
use Rattle.theory.specs.Rounds.{final_ranks}
use Rattle.walk.specs.code.Arenas.{arena_in}
use Rattle.rounds.specs.declared.rounds.Ranking.{Ranking}
use Rattle.rounds.specs.code.Falling.{first_rank, falls_next, next_ranks, last_round}

-- the same arena, and these ranks in the same buffer
pub record Holds (w : Ranking) (held : List ℕ) (w' : Ranking) : Type 0 where
  pub sized : w'.sized ≡ w.sized
  pub buffer : w'.ranks.ghost_name ≡ w.ranks.ghost_name
  pub ranks : w'.ranks.now ≡ held

-- round 1
abbrev pub FirstLeft : Ranking → Ranking → Type 0
FirstLeft w = let a = w.sized.now.arena.now in Holds w (tabulate (first_rank a.positions.now a.level) 0 a.level.nodes)

-- round n + 1, and whether a node fell
abbrev pub RoundLeft : Ranking → ℕ → Ranking → Bool → Type 0
RoundLeft w n w' any =
    let a = w.sized.now.arena.now in
    Holds w (next_ranks (arena_in a) n w.ranks.now) w' × (any ≡ any_below (falls_next (arena_in a) n w.ranks.now) a.level.nodes)

-- all rounds, and the number of the last
abbrev pub AllLeft : Ranking → Ranking → ℕ → Type 0
AllLeft w w' n = Holds w (final_ranks (arena_in w.sized.now.arena.now)) w' × (n ≡ last_round w'.ranks.now)
