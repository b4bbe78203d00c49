-- A node's whole mask may stand exactly if the node passes theory's test, and the marks of a T body are what its table lacks. Assumes
-- nothing.
use Prim.Native.Nat.{ℕ, ◌^◌, ◌<◌}
use mathlib.Core.Path.{◌≡◌, refl, sym, ◌∙◌, ap}
use mathlib.Core.Bool.{Bool, true, false, cond}
use mathlib.Core.Logic.{⊎_elim}
use mathlib.Core.List.{List}
use lib.Dec.{eqb}
use lib.ListN.{get_or}
use borrow.Author.Tests.{eqb-true, eq-eqb, not-true}
use Rattle.theory.specs.Fold.{both}
use Rattle.theory.specs.Game.{Game, Legal}
use Rattle.theory.specs.Rounds.{Arena, spoilt_by, mask_below}
use Rattle.theory.specs.Delay.{arena}
use Rattle.theory.specs.Table.{Table, lacks, has, bit, allows, TableFits}
use Rattle.theory.specs.Judging.{node_ok}
use Rattle.theory.proofs.Fold.{bool, not_both, same_test, both_true, both_left, both_right, both_none}
use Rattle.theory.proofs.Masks.{bits_ext, mask_lt, mask_bit, zero_bit}
use Rattle.theory.proofs.Tables.{has_mask, lacks_has, unspoilt_too}
use Rattle.theory.proofs.Judging.{Stands, node_stands, stands_node}
use Rattle.walk.specs.code.Walks.{fallen_by}
use Rattle.rule.proofs.PartCode.{mark_fallen}
use Rattle.rule.specs.code.Parts.{mark_for, mark_at, Marked, stays, part_of}
use Rattle.judge.specs.code.Tests.{whole_at}

-- a number behind a test: where it is not 0, the test passed
part_stands : (b : Bool) (m : ℕ) → (cond b m 0 ≡ 0 → ⊥) → (b ≡ true) × (cond b m 0 ≡ m)
part_stands true m n = (refl, refl)
part_stands false m n = absurd (n refl)

module _ (E : Arena) (fallen : ℕ → Bool) (T : Table) (k : ℕ) (small : get_or T.masks k 0 < 2 ^ E.actions)
    (less : (c : ℕ) → spoilt_by E fallen k c ≡ false → spoilt_by E (lacks T) k c ≡ false)
    (more : (c : ℕ) → spoilt_by E (lacks T) k c ≡ false → spoilt_by E fallen k c ≡ false) where
  abbrev mask : ℕ
  mask = get_or T.masks k 0

  abbrev part : ℕ
  part = part_of E fallen k mask

  whole_stands : part ≡ mask → has T k ≡ true → Stands E T k
  unfolding part_of stays allows
  whole_stands e h =
      let s =
      part_stands (both (E.right k) (E.safe k)) (mask_below (stays E fallen k mask) E.actions)
      (λ z. has_mask T k h (sym e ∙ z)) in
      record {
        right = both_left _ _ s.0;
        safe = both_right _ _ s.0;
        unspoilt =
            λ c l a.
            let b : bit (mask_below (stays E fallen k mask) E.actions) c ≡ true = ap (λ m. bit m c) (sym s.1 ∙ e) ∙ a in
            less c (not-true _ (both_right _ _ (sym (mask_bit (stays E fallen k mask) E.actions c l) ∙ b)));
      }

  -- what stands of a mask whose actions are not spoilt is all of it
  stays_all : ((c : ℕ) → c < E.actions → bit mask c ≡ true → spoilt_by E fallen k c ≡ false)
      → mask_below (stays E fallen k mask) E.actions ≡ mask
  unfolding stays
  stays_all f =
      bits_ext E.actions _ mask (mask_lt _ E.actions) small
      (λ c l.
      mask_bit (stays E fallen k mask) E.actions c l
      ∙ ⊎_elim
      (λ (t : bit mask c ≡ true). both_true _ _ t (rw (f c l t)) ∙ sym t)
      (λ (n : bit mask c ≡ false). both_none _ _ n ∙ sym n)
      (bool (bit mask c)))

  stands_whole : node_ok E T k ≡ true → part ≡ mask
  unfolding part_of lacks allows
  stands_whole e =
      ⊎_elim
      (λ (l : lacks T k ≡ true).
      let z : mask ≡ 0 = eqb-true _ 0 l in
      let none : mask_below (stays E fallen k mask) E.actions ≡ mask =
      stays_all (λ c l t. absurd (not_both t (ap (λ m. bit m c) z ∙ zero_bit c))) in
      rw none (either_way (both (E.right k) (E.safe k)) z))
      (λ (l : lacks T k ≡ false).
      let s = node_stands E T k e (lacks_has T k l) in
      rw (both_true _ _ s.right s.safe) (stays_all (λ c l t. more c (s.unspoilt c l t))))
      (bool (lacks T k))
    where
      either_way : (b : Bool) → mask ≡ 0 → cond b mask 0 ≡ mask
      either_way true z = refl
      either_way false z = sym z

  pub whole_is : eqb part mask ≡ node_ok E T k
  whole_is =
      same_test _ _
      (λ e. stands_node E T k (whole_stands (eqb-true _ _ e)))
      (λ e. eq-eqb _ _ (stands_whole e))

-- over the marks of a T body

module _ (G : Game) (legal : Legal G) (d : ℕ) (T : Table) (fits : TableFits G d T) (marks : List ℕ) (marked : Marked T.masks marks) where
  pub marks_lack : (k : ℕ) → k < (arena G d).nodes → fallen_by 1 marks k ≡ lacks T k
  unfolding fallen_by mark_for mark_at lacks
  marks_lack k h = rw (marked k (rw fits.masks_length h)) (mark_fallen (eqb (get_or T.masks k 0) 0))

  pub node_is : (k : ℕ) → k < (arena G d).nodes → whole_at (arena G d) marks T.masks k ≡ node_ok (arena G d) T k
  unfolding whole_at arena
  node_is k h =
      whole_is (arena G d) (fallen_by 1 marks) T k (fits.masks_small k)
      (unspoilt_too G legal d (fallen_by 1 marks) (lacks T) marks_lack k)
      (unspoilt_too G legal d (lacks T) (fallen_by 1 marks) (λ k h. sym (marks_lack k h)) k)
