-- What all rounds leave, by the test that level and buffer fit (specs/code/Falling.antt). Assumes nothing.
use Prim.Native.Nat.{ℕ}
use mathlib.Core.Path.{◌≡◌}
use mathlib.Core.List.{List}
use Rattle.theory.specs.Rounds.{Arena, final_ranks}
use Rattle.walk.specs.declared.level.Level.{Level}
use Rattle.walk.specs.code.Nodes.{Sized, is_fitted}
use Rattle.walk.proofs.NodeLaws.{fitted}
use Rattle.rounds.specs.code.Falling.{AtMost, Ranked}
use Rattle.rounds.proofs.RoundLaws.{last_most}

module _ (positions : ℕ) (l : Level) (E : Arena) (before : List ℕ) (entries : ℕ) where
  module _ (after : List ℕ) (n : ℕ) (s : Sized positions l) (e : entries ≡ l.nodes) where
    pub ranked_ranks : Ranked (is_fitted positions l entries) E before after n → after ≡ final_ranks E
    unfolding Ranked
    ranked_ranks h = (rw (fitted positions l entries s e) at h).0

    pub ranked_number : Ranked (is_fitted positions l entries) E before after n → AtMost n after
    unfolding Ranked
    ranked_number h = let last = (rw (fitted positions l entries s e) at h).1 in rw last (last_most after)
