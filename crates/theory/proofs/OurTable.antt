-- Our own table: it fits, it is judged, every judged table lies inside it, and a strategy wins exactly if it keeps to it.
-- Assumes nothing.
use Prim.Native.Nat.{ℕ, ◌≤◌, ◌<◌}
use mathlib.Core.Path.{◌≡◌, refl}
use mathlib.Core.Bool.{Bool, true, false}
use mathlib.Core.Logic.{◌↔◌, ⊎_elim}
use mathlib.Core.List.{Memᴰ}
use lib.ListN.{get_or-eq_default}
use Rattle.theory.specs.Fold.{both}
use Rattle.theory.specs.Game.{Game, Target, to, Legal}
use Rattle.theory.specs.Strategy.{Strategy, Wins}
use Rattle.theory.specs.Rounds.{spoilt_by, fell, final_ranks, kept}
use Rattle.theory.specs.Delay.{initial_words, arena, good_with, flags}
use Rattle.theory.specs.Table.{Table, ours, flagged, allows, TableFits, Judged, Inside, node, Obeys}
use Rattle.theory.specs.Closing.{part}
use Rattle.theory.proofs.Fold.{below?}
use Rattle.theory.proofs.Rounds.{unspoilt, unspoilt_outcome}
use Rattle.theory.proofs.Region.{Allowed, kept_stood, kept_is, allowed, allows_unspoilt}
use Rattle.theory.proofs.Standing.{bit_action}
use Rattle.theory.proofs.Correctness.{Seen, seen_node, given_unspoilt, reached_kept, initial_good}
use Rattle.theory.proofs.Tables.{flagged_flag, step_legal, obeys_wins}
use Rattle.theory.proofs.Part.{fits_sized, part_flagged, flagged_part, part_fits, part_judged, part_largest}

module _ (G : Game) (d : ℕ) where
  -- it is what the rounds leave of all words and actions
  ours_part : ours G d ≡ part G d (λ v. true) (λ k c. true)
  unfolding ours flags good_with part both
  ours_part = refl

  pub good_flagged : (v : ℕ) → v < initial_words G d → good_with G d (final_ranks (arena G d)) v ≡ true → flagged (ours G d) v ≡ true
  unfolding good_with
  good_flagged v h e = rw ours_part (flagged_part G d (λ v. true) (λ k c. true) v h refl e)

  pub flagged_good : (v : ℕ) → flagged (ours G d) v ≡ true → (v < initial_words G d) × (good_with G d (final_ranks (arena G d)) v ≡ true)
  unfolding good_with
  flagged_good v f = let t = part_flagged G d (λ v. true) (λ k c. true) v (rw ours_part at f) in (t.0, t.2)

  pub ours_allowed : (k c : ℕ) → allows (ours G d) k c ≡ true → Allowed (arena G d) k c
  unfolding allows ours
  ours_allowed k c e = allowed (arena G d) k c e

  pub allowed_ours : (k c : ℕ) → Allowed (arena G d) k c → allows (ours G d) k c ≡ true
  unfolding allows ours
  allowed_ours k c a = allows_unspoilt (arena G d) k c a

  pub ours_fits : TableFits G d (ours G d)
  ours_fits = rw ours_part (part_fits G d (λ v. true) (λ k c. true))

  -- what a table that fits flags and allows are words and actions
  module _ (T : Table) (fits : TableFits G d T) where
    pub flagged_word : (v : ℕ) → flagged T v ≡ true → v < initial_words G d
    flagged_word v e =
        ⊎_elim
        (λ (h : v < initial_words G d). h)
        (λ (h : initial_words G d ≤ v). absurd (flagged_flag T v e (get_or-eq_default T.flags 0 (rw fits.flags_length h))))
        (below? v (initial_words G d))

    pub allows_action : (k c : ℕ) → allows T k c ≡ true → c < G.actions
    unfolding allows arena
    allows_action k c e = bit_action (arena G d) T.masks (fits_sized G d T fits) k c e

module _ (G : Game) (legal : Legal G) (d : ℕ) where
  abbrev region : ℕ → Bool
  region k = kept (arena G d) (final_ranks (arena G d)) k

  -- demand 2's table: an action of a node of the winning region all of whose outcomes stay in the region
  pub record Keeps (k c : ℕ) : Type 0 where
    pub node : k < (arena G d).nodes
    pub kept : region k ≡ true
    pub action : c < G.actions
    pub inside : (o : Target) → Memᴰ o ((arena G d).step k c) → (k' : ℕ) × (o ≡ to k') × (region k' ≡ true)

  pub allows_keeps : (k c : ℕ) → (allows (ours G d) k c ≡ true) ↔ Keeps k c
  unfolding arena
  allows_keeps k c = (
    λ e.
        let a = ours_allowed G d k c e in
        record { node = a.node; kept = a.region; action = a.action; inside = stay a.unspoilt },
    λ s.
        allowed_ours G d k c
        (record {
          node = s.node;
          region = s.kept;
          action = s.action;
          unspoilt =
              unspoilt (arena G d) (fell (final_ranks (arena G d))) k c
              (λ o i. let x = s.inside o i in (x.0, x.1, kept_stood (arena G d) (final_ranks (arena G d)) x.0 x.2));
        }),
  )
    where
      stay : spoilt_by (arena G d) (fell (final_ranks (arena G d))) k c ≡ false → (o : Target) → Memᴰ o ((arena G d).step k c)
          → (k' : ℕ) × (o ≡ to k') × (region k' ≡ true)
      stay u o i =
          let x = unspoilt_outcome (arena G d) (fell (final_ranks (arena G d))) k c u i in
          let l = step_legal G legal d k c x.0 (rw x.1 at i) in
          (x.0, x.1, kept_is (arena G d) (final_ranks (arena G d)) x.0 l.1 x.2)

  -- our own table is judged
  pub ours_judged : Judged G d (ours G d)
  ours_judged = rw (ours_part G d) (part_judged G d (λ v. true) (λ k c. true) legal)

  -- every judged table lies inside ours
  pub judged_inside : (T : Table) → TableFits G d T → Judged G d T → Inside T (ours G d)
  judged_inside T fits judged =
      rw (ours_part G d)
      (part_largest G d (λ v. true) (λ k c. true) legal T (fits_sized G d T fits) judged
      (λ v f. (flagged_word G d T fits v f, refl))
      (λ k c a. refl))

  -- a strategy wins exactly if it keeps to our table: nobody's plan is left out, and any choice out of the masks wins
  pub wins_obeys : (σ : Strategy G.actions d) → Wins G d σ → Obeys G d σ (ours G d)
  unfolding initial_words arena
  wins_obeys σ w =
      record {
        first = good_flagged G d σ.initial σ.initial_word (initial_good G legal d σ w);
        given =
            λ π c r.
            let s : Seen G legal d σ π = record { consistent = c; right = r } in
            allowed_ours G d (node G d σ π) (σ.given π)
            (record {
              node = seen_node G legal d σ s;
              region = reached_kept G legal d σ w s;
              action = σ.given_action π;
              unspoilt = given_unspoilt G legal d σ w s;
            });
      }

  pub wins_iff : (σ : Strategy G.actions d) → Wins G d σ ↔ Obeys G d σ (ours G d)
  wins_iff σ = (wins_obeys σ, obeys_wins G legal d (ours G d) ours_judged σ)
