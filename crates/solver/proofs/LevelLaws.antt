-- One delay's nodes (src/levels.rt). Assumes nothing.
use Prim.Native.Nat.{ℕ}
use mathlib.Core.Path.{◌≡◌, ◌∙◌, ap}
use mathlib.Core.Bool.{Bool, not, cond}
use mathlib.Core.List.{List}
use lib.ListN.{length}
use Rattle.theory.specs.Fold.{tabulate}
use Rattle.theory.specs.Rounds.{Arena, spoilt_by, kept, mask_below, mask_at, masks_by}
use Rattle.walk.specs.declared.level.Level.{Level}
use Rattle.walk.specs.code.Levels.{arena_of}
use Rattle.walk.specs.code.Nodes.{Sized}
use Rattle.rounds.specs.code.Falling.{AtMost, RanksLeft}
use Rattle.rounds.proofs.RoundLaws.{fallen_all}
use Rattle.rounds.proofs.RankedLaws.{ranked_ranks, ranked_number}
use Rattle.region.specs.code.Kept.{allowed_in, mask_in, masks_in, masks_after}
use Rattle.region.proofs.MaskLaws.{masks_known}
use Rattle.solver.specs.code.Working.{Worked}
use Rattle.solver.specs.code.Search.{Leveled}

pub level_rounds : (p : List ℕ) (g : List (List ℕ)) (u f : List ℕ) (l : Level) (before : List ℕ) {after left : List ℕ} {n : ℕ} → Sized (length p) l
    → length before ≡ l.nodes → l.words ≡ 1 → RanksLeft p g u f l before after n → Leveled (arena_of p g u f l) l after left n
level_rounds p g u f l before {after} {left} {n} sized e one ranked =
    record {
      final = ranked_ranks (length p) l _ _ _ after n sized e ranked;
      most = ranked_number (length p) l _ _ _ after n sized e ranked;
      masks = λ many. absurd (many one);
    }

pub level_worked : {E : Arena} {l : Level} {after left : List ℕ} {n : ℕ} → Worked E after left n → Leveled E l after left n
level_worked w = record { final = w.ranks; most = λ k. rw w.ranks (w.most k); masks = λ many. w.masks }

-- the masks by the nodes of rank 1 to n are those by all ranks, where no rank is over n
pub masks_all : (p : List ℕ) (g : List (List ℕ)) (u f : List ℕ) (l : Level) (n : ℕ) (ranks before : List ℕ) {after : List ℕ} → Sized (length p) l
    → AtMost n ranks → length before ≡ l.nodes → after ≡ masks_after p g u f l n ranks before → after ≡ masks_by (arena_of p g u f l) ranks
unfolding masks_in masks_by mask_in mask_at allowed_in
masks_all p g u f l n ranks before sized most e made =
    let E = arena_of p g u f l in
    masks_known p g u f l n ranks before sized e made
    ∙ ap
    (λ (t : ℕ → Bool). tabulate (λ k. cond (kept E ranks k) (mask_below (λ c. not (spoilt_by E t k c)) E.actions) 0) 0 E.nodes)
    (fallen_all n ranks most)
