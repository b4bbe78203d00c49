-- What the rounds leave of some first words and actions (specs/Closing.antt, part): it is judged, and holds every judged table of those
-- words and actions. Our own table and what notices leave are its cases. Assumes nothing.
use Prim.Native.Nat.{ℕ, ◌≤◌, ◌<◌}
use mathlib.Core.Path.{◌≡◌, ◌∙◌}
use mathlib.Core.Bool.{Bool, true, false, cond}
use mathlib.Core.Logic.{⊎_elim}
use mathlib.Core.List.{List}
use native.Mathlib.Omega.{arith}
use lib.ListN.{get_or}
use Rattle.theory.specs.Fold.{both, tabulate}
use Rattle.theory.specs.Game.{Game, Legal}
use Rattle.theory.specs.Rounds.{Arena, final_ranks, kept}
use Rattle.theory.specs.Delay.{initial_words, arena, good_from, flag_by}
use Rattle.theory.specs.Table.{Table, flagged, lacks, has, allows, TableFits, Judged, Inside}
use Rattle.theory.specs.Closing.{restrict, part, SizedMasks, StandingMasks}
use Rattle.theory.proofs.Fold.{bool, both_true, both_left, both_right, below?, length_tabulate, get_d_tabulate, get_d_tabulate_out}
use Rattle.theory.proofs.Region.{length_masks, mask_bound, region_mask, mask_region}
use Rattle.theory.proofs.Standing.{masks_allowed, masks_standing, standing_kept, standing_below}
use Rattle.theory.proofs.Tables.{has_mask, mask_has, flagged_flag, flag_flagged, step_legal, good_more}

-- a table by its masks
module _ (G : Game) (d : ℕ) (T : Table) where
  pub fits_sized : TableFits G d T → SizedMasks (arena G d) T.masks
  unfolding arena
  fits_sized fits = record { count = fits.masks_length; small = fits.masks_small }

  pub judged_standing : Judged G d T → StandingMasks (arena G d) T.masks
  unfolding arena lacks allows
  judged_standing judged =
      record {
        right = λ k h n. judged.right k h (mask_has T k n);
        safe = λ k h n. judged.safe k h (mask_has T k n);
        unspoilt = judged.unspoilt;
      }

  standing_judged : ((v : ℕ) → v < initial_words G d → flagged T v ≡ true → good_from G d (has T) v ≡ true)
      → StandingMasks (arena G d) T.masks
      → Judged G d T
  unfolding arena lacks allows
  standing_judged words standing =
      record {
        words = words;
        right = λ k h e. standing.right k h (has_mask T k e);
        safe = λ k h e. standing.safe k h (has_mask T k e);
        unspoilt = standing.unspoilt;
      }

-- the flags of a test
module _ (test : ℕ → Bool) (n : ℕ) where
  abbrev flag_list : List ℕ
  flag_list = tabulate (flag_by test) 0 n

  flag_is : (v : ℕ) → v < n → get_or flag_list v 0 ≡ cond (test v) 1 0
  unfolding flag_by
  flag_is v h = get_d_tabulate (flag_by test) n v 0 h

  flag_set : (v : ℕ) → v < n → test v ≡ true → get_or flag_list v 0 ≡ 1
  flag_set v h e = flag_is v h ∙ rw e

  flag_test : (v : ℕ) → (get_or flag_list v 0 ≡ 0 → ⊥) → (v < n) × (test v ≡ true)
  flag_test v s =
      ⊎_elim
      (λ (h : v < n).
      ⊎_elim
      (λ (e : test v ≡ true). (h, e))
      (λ (e : test v ≡ false). absurd (s (flag_is v h ∙ rw e)))
      (bool (test v)))
      (λ (h : n ≤ v). absurd (s (get_d_tabulate_out (flag_by test) n v 0 h)))
      (below? v n)

  flag_small : (v : ℕ) → get_or flag_list v 0 ≤ 1
  flag_small v =
      ⊎_elim
      (λ (h : get_or flag_list v 0 < 1). omega arith)
      (λ (h : 1 ≤ get_or flag_list v 0).
      let t = flag_test v (λ z. omega arith) in
      let f = flag_set v t.0 t.1 in
      omega arith)
      (below? (get_or flag_list v 0) 1)

module _ (G : Game) (d : ℕ) (wanted : ℕ → Bool) (permits : ℕ → ℕ → Bool) where
  abbrev left : Table
  left = part G d wanted permits

  abbrev inner : Arena
  inner = restrict (arena G d) permits

  abbrev region : ℕ → Bool
  region = kept inner (final_ranks inner)

  abbrev good_word : ℕ → Bool
  good_word v = both (wanted v) (good_from G d region v)

  pub part_flagged : (v : ℕ) → flagged left v ≡ true
      → (v < initial_words G d) × (wanted v ≡ true) × (good_from G d region v ≡ true)
  unfolding part
  part_flagged v f =
      let t = flag_test good_word (initial_words G d) v (flagged_flag left v f) in
      (t.0, both_left _ _ t.1, both_right _ _ t.1)

  pub flagged_part : (v : ℕ) → v < initial_words G d → wanted v ≡ true → good_from G d region v ≡ true → flagged left v ≡ true
  unfolding part
  flagged_part v h w g =
      let f = flag_set good_word (initial_words G d) v h (both_true _ _ w g) in
      flag_flagged left v (λ z. omega arith)

  pub part_region : (k : ℕ) → k < (arena G d).nodes → has left k ≡ true → region k ≡ true
  unfolding part
  part_region k h e = mask_region inner k h (has_mask left k e)

  region_part : (k : ℕ) → k < (arena G d).nodes → region k ≡ true → has left k ≡ true
  unfolding part
  region_part k h e = mask_has left k (region_mask inner k h e)

  pub part_allowed : (k c : ℕ) → allows left k c ≡ true → permits k c ≡ true
  unfolding part allows
  part_allowed k c a = masks_allowed (arena G d) permits k c a

  pub part_fits : TableFits G d left
  unfolding part arena
  part_fits =
      record {
        flags_length = length_tabulate (flag_by good_word) 0 (initial_words G d);
        flags_small = flag_small good_word (initial_words G d);
        masks_length = length_masks inner;
        masks_small = mask_bound inner;
      }

  pub part_judged : Legal G → Judged G d left
  unfolding part
  part_judged legal =
      standing_judged G d left
      (λ v h f. good_more G legal d region (has left) v h region_part (part_flagged v f).2)
      (masks_standing (arena G d) permits (step_legal G legal d))

  pub part_largest : Legal G → (T : Table) → SizedMasks (arena G d) T.masks → Judged G d T
      → ((v : ℕ) → flagged T v ≡ true → (v < initial_words G d) × (wanted v ≡ true))
      → ((k c : ℕ) → allows T k c ≡ true → permits k c ≡ true)
      → Inside T left
  unfolding part allows
  part_largest legal T sized judged words actions =
      let standing = judged_standing G d T judged in
      record {
        flags =
            λ v f.
            let (h, w) = words v f in
            flagged_part v h w
            (good_more G legal d (has T) region v h
            (λ k l e. standing_kept (arena G d) permits T.masks sized standing actions k (has_mask T k e))
            (judged.words v h f));
        masks = standing_below (arena G d) permits T.masks sized standing actions;
      }
