-- The winning region of an arena: the nodes that never fall are the largest winning set, and the masks allow exactly the actions
-- that keep every outcome in it. Assumes nothing.
use Prim.Native.Nat.{ℕ, zero, suc, ◌^◌, ◌≤◌, ◌<◌}
use mathlib.Core.Path.{◌≡◌, refl, sym, ◌∙◌, ap}
use mathlib.Core.Bool.{Bool, true, false, not}
use mathlib.Core.Logic.{⊎_elim}
use mathlib.Core.List.{List}
use lib.Pow.{pow_pos}
use lib.ListN.{length, get_or}
use borrow.Author.Tests.{not-true, not-false}
use Rattle.theory.specs.Fold.{all_below, first_not}
use Rattle.theory.specs.Rounds.{Arena, Closed, spoilt_by, fell, node_falls, ranks_after, final_ranks, kept_by, kept, mask_below, mask_at, masks_by, masks}
use Rattle.theory.specs.Table.{bit}
use Rattle.theory.proofs.Fold.{bool, not_both, both_true, both_left, both_right, all_fails, below?, first, length_tabulate, get_d_tabulate, get_d_tabulate_out}
use Rattle.theory.proofs.Rounds.{unspoilt, unspoilt_outcome, fell_false, rank_zero, stands, stood_before, stood_falls, final_quiet}
use Rattle.theory.proofs.Masks.{mask_bit, mask_high, mask_some, mask_lt, zero_bit}

module _ (E : Arena) where
  pub kept_right : (ranks : List ℕ) (k : ℕ) → kept E ranks k ≡ true → E.right k ≡ true
  unfolding kept_by
  kept_right ranks k e = both_left _ _ e

  pub kept_stood : (ranks : List ℕ) (k : ℕ) → kept E ranks k ≡ true → fell ranks k ≡ false
  unfolding kept_by
  kept_stood ranks k e = not-true _ (both_right (E.right k) _ e)

  pub kept_is : (ranks : List ℕ) (k : ℕ) → E.right k ≡ true → fell ranks k ≡ false → kept E ranks k ≡ true
  unfolding kept_by
  kept_is ranks k r e = both_true _ _ r (rw e)

  -- the conditions of rounds 1 and n + 2, by their tests
  first_falls : (ranks : List ℕ) (k : ℕ) → node_falls E 0 ranks k ≡ not (E.safe k)
  unfolding node_falls
  first_falls ranks k = refl

  next_falls : (n : ℕ) (ranks : List ℕ) (k : ℕ) → node_falls E (suc n) ranks k ≡ all_below (spoilt_by E (fell ranks) k) E.actions
  unfolding node_falls
  next_falls n ranks k = refl

  stood_first : (n k : ℕ) → fell (ranks_after E (suc n)) k ≡ false → fell (ranks_after E 1) k ≡ false
  stood_first zero k e = e
  stood_first (suc n) k e = stood_first n k (stood_before E (suc n) k e)

  -- a node of the region is safe and has an unspoilt action
  pub region_safe : (k : ℕ) → k < E.nodes → kept E (final_ranks E) k ≡ true → E.safe k ≡ true
  unfolding final_ranks
  region_safe k h e =
      not-false _
      (sym (first_falls (ranks_after E 0) k)
      ∙ stood_falls E 0 k h (kept_right (ranks_after E (suc E.nodes)) k e)
      (stood_first E.nodes k (kept_stood (ranks_after E (suc E.nodes)) k e)))

  pub region_action : (k : ℕ) → k < E.nodes → kept E (final_ranks E) k ≡ true
      → all_below (spoilt_by E (fell (final_ranks E)) k) E.actions ≡ false
  unfolding final_ranks
  region_action k h e =
      sym (next_falls E.nodes (ranks_after E (suc E.nodes)) k)
      ∙ stood_falls E (suc E.nodes) k h (kept_right (ranks_after E (suc E.nodes)) k e)
      (rw (final_quiet E) (kept_stood (ranks_after E (suc E.nodes)) k e))

  -- the winning region is a winning set
  pub region_closed : (k : ℕ) → k < E.nodes → kept E (final_ranks E) k ≡ true → Closed E (λ k'. fell (final_ranks E) k' ≡ false) k
  region_closed k h e =
      let f = first (spoilt_by E (fell (final_ranks E)) k) E.actions (region_action k h e) in
      record {
        safe = region_safe k h e;
        action = first_not (spoilt_by E (fell (final_ranks E)) k) E.actions;
        action_lt = f.below;
        inside = λ o m. unspoilt_outcome E (fell (final_ranks E)) k _ f.fails m;
      }

  -- and contains every winning set: no node of one ever falls. Only nodes of the right side need be looked at
  pub never_falls : (S : ℕ → Type 0) → ((k : ℕ) → k < E.nodes → E.right k ≡ true → S k → Closed E S k) → (n k : ℕ) → S k
      → fell (ranks_after E n) k ≡ false
  never_falls S closed zero k s = fell_false (ranks_after E 0) k (rank_zero E k)
  never_falls S closed (suc zero) k s =
      stands E 0 k (never_falls S closed zero k s)
      (λ h r. rw (first_falls (ranks_after E 0) k, (closed k h r s).safe))
  never_falls S closed (suc (suc n)) k s =
      stands E (suc n) k (never_falls S closed (suc n) k s)
      (λ h r.
      let c = closed k h r s in
      rw (next_falls n (ranks_after E (suc n)) k)
      (all_fails (spoilt_by E (fell (ranks_after E (suc n))) k) c.action E.actions c.action_lt
      (unspoilt E (fell (ranks_after E (suc n))) k c.action
      (λ o m. let i = c.inside o m in (i.0, i.1, never_falls S closed (suc n) i.0 i.2)))))

  pub region_largest : (S : ℕ → Type 0) → ((k : ℕ) → k < E.nodes → E.right k ≡ true → S k → Closed E S k) → (k : ℕ) → S k
      → fell (final_ranks E) k ≡ false
  unfolding final_ranks
  region_largest S closed k s = never_falls S closed (suc E.nodes) k s

  -- the masks

  pub length_masks : length (masks E) ≡ E.nodes
  unfolding masks masks_by
  length_masks = length_tabulate (mask_at E (final_ranks E)) 0 E.nodes

  pub mask_is : (k : ℕ) → k < E.nodes → get_or (masks E) k 0 ≡ mask_at E (final_ranks E) k
  unfolding masks masks_by
  mask_is k h = get_d_tabulate (mask_at E (final_ranks E)) E.nodes k 0 h

  pub mask_out : (k : ℕ) → E.nodes ≤ k → get_or (masks E) k 0 ≡ 0
  unfolding masks masks_by
  mask_out k h = get_d_tabulate_out (mask_at E (final_ranks E)) E.nodes k 0 h

  unspoilt_at : ℕ → ℕ → Bool
  unspoilt_at k c = not (spoilt_by E (fell (final_ranks E)) k c)

  mask_kept : (k : ℕ) → k < E.nodes → kept E (final_ranks E) k ≡ true → get_or (masks E) k 0 ≡ mask_below (unspoilt_at k) E.actions
  unfolding mask_at unspoilt_at
  mask_kept k h e = mask_is k h ∙ rw e

  mask_lost : (k : ℕ) → k < E.nodes → kept E (final_ranks E) k ≡ false → get_or (masks E) k 0 ≡ 0
  unfolding mask_at
  mask_lost k h e = mask_is k h ∙ rw e

  -- a mask has no bit at the number of actions or above
  pub mask_bound : (k : ℕ) → get_or (masks E) k 0 < 2 ^ E.actions
  mask_bound k =
      ⊎_elim
      (λ (h : k < E.nodes).
      ⊎_elim
      (λ (e : kept E (final_ranks E) k ≡ true). rw (mask_kept k h e) (mask_lt (unspoilt_at k) E.actions))
      (λ (e : kept E (final_ranks E) k ≡ false). rw (mask_lost k h e) (pow_pos E.actions))
      (bool (kept E (final_ranks E) k)))
      (λ (h : E.nodes ≤ k). rw (mask_out k h) (pow_pos E.actions))
      (below? k E.nodes)

  -- what the masks allow: an action of a node of the region, none of whose outcomes is forbidden, passes an unsafe position or falls
  pub record Allowed (k c : ℕ) : Type 0 where
    pub node : k < E.nodes
    pub region : kept E (final_ranks E) k ≡ true
    pub action : c < E.actions
    pub unspoilt : spoilt_by E (fell (final_ranks E)) k c ≡ false

  pub allowed : (k c : ℕ) → bit (get_or (masks E) k 0) c ≡ true → Allowed k c
  unfolding unspoilt_at
  allowed k c e =
      ⊎_elim
      (λ (h : k < E.nodes).
      ⊎_elim
      (λ (g : kept E (final_ranks E) k ≡ true).
      let b = rw (mask_kept k h g) at e in
      ⊎_elim
      (λ (l : c < E.actions).
      record {
        node = h;
        region = g;
        action = l;
        unspoilt = not-true _ (sym (mask_bit (unspoilt_at k) E.actions c l) ∙ b);
      })
      (λ (l : E.actions ≤ c). absurd (not_both b (mask_high (unspoilt_at k) E.actions c l)))
      (below? c E.actions))
      (λ (g : kept E (final_ranks E) k ≡ false).
      absurd (not_both e (ap (λ m. bit m c) (mask_lost k h g) ∙ zero_bit c)))
      (bool (kept E (final_ranks E) k)))
      (λ (h : E.nodes ≤ k). absurd (not_both e (ap (λ m. bit m c) (mask_out k h) ∙ zero_bit c)))
      (below? k E.nodes)

  pub allows_unspoilt : (k c : ℕ) → Allowed k c → bit (get_or (masks E) k 0) c ≡ true
  unfolding unspoilt_at
  allows_unspoilt k c a =
      rw (mask_kept k a.node a.region) (mask_bit (unspoilt_at k) E.actions c a.action ∙ rw a.unspoilt)

  -- a node has a mask exactly if it is in the region
  pub region_mask : (k : ℕ) → k < E.nodes → kept E (final_ranks E) k ≡ true → get_or (masks E) k 0 ≡ 0 → ⊥
  unfolding unspoilt_at
  region_mask k h e z =
      let f = first (spoilt_by E (fell (final_ranks E)) k) E.actions (region_action k h e) in
      mask_some (unspoilt_at k) E.actions (first_not (spoilt_by E (fell (final_ranks E)) k) E.actions) f.below (rw f.fails)
      (sym (mask_kept k h e) ∙ z)

  pub mask_region : (k : ℕ) → k < E.nodes → (get_or (masks E) k 0 ≡ 0 → ⊥) → kept E (final_ranks E) k ≡ true
  mask_region k h n =
      ⊎_elim
      (λ e. e)
      (λ (e : kept E (final_ranks E) k ≡ false). absurd (n (mask_lost k h e)))
      (bool (kept E (final_ranks E) k))
