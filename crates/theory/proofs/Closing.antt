-- Closing notices (specs/Closing.antt): the laws of two sets of safe positions, what posting leaves of any table and of ours, and what a
-- shut start and shut pairs lose. Assumes nothing.
use Prim.Native.Nat.{ℕ, ◌/◌}
use mathlib.Core.Path.{◌≡◌, refl, sym, ◌∙◌}
use mathlib.Core.Bool.{Bool, true, false, cond, true≢false}
use mathlib.Core.Logic.{⊎_elim}
use mathlib.Core.List.{List}
use Rattle.theory.specs.Fold.{any_of}
use Rattle.theory.specs.Game.{Game, Target, absent, to, Legal}
use Rattle.theory.specs.Rounds.{bad, spoilt_by}
use Rattle.theory.specs.Delay.{odd, words, initial_words, moved_to, played_to, outcomes, step, arena, good_by, good_from}
use Rattle.theory.specs.Table.{Table, ours, flagged, has, allows, TableFits, Judged, Inside}
use Rattle.theory.specs.Closing.{restrict, with_safe, listed, open_in, close, within, post}
use Rattle.theory.proofs.Fold.{bool, not_both, implies_not, both_true, both_left, both_right, both_false, any_of_map, any_of_none, any_of_fails}
use Rattle.theory.proofs.Region.{region_safe}
use Rattle.theory.proofs.Standing.{behind, mask_node}
use Rattle.theory.proofs.Tables.{has_mask, inside_self, inside_has}
use Rattle.theory.proofs.Part.{fits_sized, part_flagged, part_region}
use Rattle.theory.proofs.OurTable.{ours_fits, ours_judged, judged_inside}
use Rattle.theory.proofs.Within.{within_fits, within_inside, within_judged, within_largest, table_same}

-- sizes and legality do not ask which positions are safe
module _ (G : Game) (s s' : ℕ → Bool) where
  pub fits_safe : (d : ℕ) (T : Table) → TableFits (with_safe G s) d T → TableFits (with_safe G s') d T
  unfolding initial_words arena words
  fits_safe d T f =
      record {
        flags_length = f.flags_length;
        flags_small = f.flags_small;
        masks_length = f.masks_length;
        masks_small = f.masks_small;
      }

  pub legal_safe : Legal (with_safe G s) → Legal (with_safe G s')
  legal_safe l =
      record {
        start_position = l.start_position;
        start_controller = l.start_controller;
        targets =
            λ p c q e.
            let t = l.targets p c q e in
            record {
              from_position = t.from_position;
              from_controller = t.from_controller;
              action = t.action;
              position = t.position;
              environment = t.environment;
            };
        moves =
            λ p r i.
            let m = l.moves p r i in
            record {
              from_position = m.from_position;
              from_environment = m.from_environment;
              position = m.position;
              controller = m.controller;
            };
        live = l.live;
      }

-- an outcome behind a test
behind_one : (fallen : ℕ → Bool) (b : Bool) (o : Target) → bad fallen (cond b o absent) ≡ false → (b ≡ true) × (bad fallen o ≡ false)
unfolding bad
behind_one fallen true o e = (refl, e)
behind_one fallen false o e = absurd (true≢false e)

-- a table that is judged with one set of safe positions, inside one that is judged with another, is judged with what both sets hold
module _ (G : Game) (s₁ s₂ s : ℕ → Bool) (meet : (p : ℕ) → s₁ p ≡ true → s₂ p ≡ true → s p ≡ true) where
  -- of the first outcomes it counts only that none is absent
  module _ (fallen₁ fallen₂ : ℕ → Bool) where
    played_both : (m w : ℕ) (t : Target) → any_of (bad fallen₁) (played_to (with_safe G s₁) m w t) ≡ false
        → any_of (bad fallen₂) (played_to (with_safe G s₂) m w t) ≡ false
        → any_of (bad fallen₂) (played_to (with_safe G s) m w t) ≡ false
    unfolding played_to
    played_both m w absent e₁ e₂ = e₂
    played_both m w (to q) e₁ e₂ =
        let x₁ = implies_not _ _ (sym (behind fallen₁ (s₁ q) _) ∙ e₁) in
        let x₂ = implies_not _ _ (sym (behind fallen₂ (s₂ q) _) ∙ e₂) in
        rw (meet q x₁.0 x₂.0) x₂.1

    moved_both : (m h w r : ℕ) → bad fallen₁ (moved_to (with_safe G s₁) m h w r) ≡ false
        → bad fallen₂ (moved_to (with_safe G s₂) m h w r) ≡ false
        → bad fallen₂ (moved_to (with_safe G s) m h w r) ≡ false
    unfolding moved_to
    moved_both m h w r e₁ e₂ =
        let x₁ = behind_one fallen₁ (s₁ r) _ e₁ in
        let x₂ = behind_one fallen₂ (s₂ r) _ e₂ in
        rw (meet r x₁.0 x₂.0) x₂.1

    outcomes_both : (b : Bool) (m p j : ℕ) → any_of (bad fallen₁) (outcomes b (with_safe G s₁) m p j) ≡ false
        → any_of (bad fallen₂) (outcomes b (with_safe G s₂) m p j) ≡ false
        → any_of (bad fallen₂) (outcomes b (with_safe G s) m p j) ≡ false
    unfolding outcomes
    outcomes_both true m p j e₁ e₂ =
        any_of_map (bad fallen₂) _ (G.moves p)
        ∙ any_of_fails _ (G.moves p)
        (λ r i.
        moved_both m _ _ r
        (any_of_none _ i (sym (any_of_map (bad fallen₁) _ (G.moves p)) ∙ e₁))
        (any_of_none _ i (sym (any_of_map (bad fallen₂) _ (G.moves p)) ∙ e₂)))
    outcomes_both false m p j e₁ e₂ = played_both m _ _ e₁ e₂

  good_both : (b : Bool) (m : ℕ) (keeps₁ keeps₂ : ℕ → Bool) (v : ℕ) → good_by b (with_safe G s₁) m keeps₁ v ≡ true
      → good_by b (with_safe G s₂) m keeps₂ v ≡ true
      → good_by b (with_safe G s) m keeps₂ v ≡ true
  unfolding good_by
  good_both true m keeps₁ keeps₂ v e₁ e₂ =
      both_true _ _ (meet G.start (both_left _ _ e₁) (both_left _ _ e₂)) (both_right (s₂ G.start) _ e₂)
  good_both false m keeps₁ keeps₂ v e₁ e₂ = e₂

  pub judged_both : (d : ℕ) (T₁ T₂ : Table) → Inside T₂ T₁ → Judged (with_safe G s₁) d T₁ → Judged (with_safe G s₂) d T₂
      → Judged (with_safe G s) d T₂
  unfolding initial_words arena words good_from spoilt_by step
  judged_both d T₁ T₂ i j₁ j₂ =
      record {
        words = λ v h f. good_both (odd d) _ _ _ v (j₁.words v h (i.flags v f)) (j₂.words v h f);
        right = j₂.right;
        safe = λ k h e. meet _ (j₁.safe k h (inside_has T₂ T₁ i k e)) (j₂.safe k h e);
        unspoilt =
            λ k c h l a.
            outcomes_both _ _ (odd d) _ _ _ (j₁.unspoilt k c h l (i.masks k c a)) (j₂.unspoilt k c h l a);
      }

-- with more positions safe, what is judged stays judged
pub judged_more : (G : Game) (s s' : ℕ → Bool) → ((p : ℕ) → s p ≡ true → s' p ≡ true) → (d : ℕ) (T : Table)
    → Judged (with_safe G s) d T
    → Judged (with_safe G s') d T
judged_more G s s' more d T j = judged_both G s s s' (λ p e e'. more p e) d T T (inside_self T) j j

-- a notice

module _ (G : Game) (ps : List ℕ) where
  open_safe : (p : ℕ) → open_in G ps p ≡ true → G.safe p ≡ true
  unfolding open_in
  open_safe p e = both_left _ _ e

  shut : (p : ℕ) → listed ps p ≡ true → open_in G ps p ≡ false
  unfolding open_in
  shut p e = both_false _ _ (rw e)

  pub close_legal : Legal G → Legal (close G ps)
  unfolding close
  close_legal legal = legal_safe G G.safe (open_in G ps) legal

  module _ (d : ℕ) (T : Table) where
    pub close_fits : TableFits G d T → TableFits (close G ps) d T
    unfolding close
    close_fits fits = fits_safe G G.safe (open_in G ps) d T fits

    pub open_fits : TableFits (close G ps) d T → TableFits G d T
    unfolding close
    open_fits fits = fits_safe G (open_in G ps) G.safe d T fits

    -- what is judged with positions closed is judged without
    pub close_more : Judged (close G ps) d T → Judged G d T
    unfolding close
    close_more j = judged_more G (open_in G ps) G.safe open_safe d T j

module _ (G : Game) (d : ℕ) (ps : List ℕ) (T : Table) where
  pub post_fits : TableFits G d (post G d ps T)
  unfolding post
  post_fits = open_fits G ps d (post G d ps T) (within_fits (close G ps) d T)

  -- "pairs, commands and first words are only taken away"
  pub post_inside : Inside (post G d ps T) T
  unfolding post
  post_inside = within_inside (close G ps) d T

  pub post_judged : Legal G → Judged (close G ps) d (post G d ps T)
  unfolding post
  post_judged legal = within_judged (close G ps) d T (close_legal G ps legal)

  -- "the largest part of that table that the judging rule of W-202 allows with those positions unsafe"
  pub post_largest : Legal G → (T' : Table) → TableFits G d T' → Judged (close G ps) d T' → Inside T' T → Inside T' (post G d ps T)
  unfolding post
  post_largest legal T' fits = within_largest (close G ps) d T (close_legal G ps legal) T' (close_fits G ps d T' fits)

  -- with a shut start no word is left at an odd delay
  pub start_shut_lem : odd d ≡ true → listed ps G.start ≡ true → (v : ℕ) → flagged (post G d ps T) v ≡ false
  unfolding post within close good_from good_by
  start_shut_lem o l v =
      ⊎_elim
      (λ (f : flagged (post G d ps T) v ≡ true).
      let g = rw o at (part_flagged (close G ps) d (flagged T) (allows T) v f).2 in
      absurd (not_both (both_left _ _ g) (shut G ps G.start l)))
      (λ n. n)
      (bool (flagged (post G d ps T) v))

  -- and at any delay no pair of a shut position has a mask
  pub pair_shut : (k : ℕ) → listed ps (k / words G d) ≡ true → has (post G d ps T) k ≡ false
  unfolding post within close arena words
  pair_shut k l =
      ⊎_elim
      (λ (e : has (post G d ps T) k ≡ true).
      let C = close G ps in
      let n = mask_node (arena C d) _ (fits_sized C d (post G d ps T) (within_fits C d T)) k (has_mask (post G d ps T) k e) in
      absurd
      (not_both
      (region_safe (restrict (arena C d) (allows T)) k n (part_region C d (flagged T) (allows T) k n e))
      (shut G ps (k / words G d) l)))
      (λ n. n)
      (bool (has (post G d ps T) k))

-- "On our own table this equals what document 01's rounds give afresh at that lag"
pub post_ours : (G : Game) → Legal G → (d : ℕ) (ps : List ℕ) → post G d ps (ours G d) ≡ ours (close G ps) d
post_ours G legal d ps =
    let C = close G ps in
    let closed = close_legal G ps legal in
    let fits = close_fits G ps d (post G d ps (ours G d)) (post_fits G d ps (ours G d)) in
    table_same C d (post G d ps (ours G d)) (ours C d) fits (ours_fits C d)
    (judged_inside C closed d (post G d ps (ours G d)) fits (post_judged G d ps (ours G d) legal))
    (post_largest G d ps (ours G d) legal (ours C d) afresh (ours_judged C closed d)
    (judged_inside G legal d (ours C d) afresh (close_more G ps d (ours C d) (ours_judged C closed d))))
  where
    afresh : TableFits G d (ours (close G ps) d)
    afresh = open_fits G ps d (ours (close G ps) d) (ours_fits (close G ps) d)
