-- Masks that stand in an arena (specs/Closing.antt): the rounds over the allowed actions leave the largest ones. Assumes nothing.
use Prim.Native.Nat.{ℕ, ◌<◌, ◌≤◌}
use mathlib.Core.Path.{◌≡◌, refl, sym, ◌∙◌}
use mathlib.Core.Bool.{Bool, true, false, not, cond}
use mathlib.Core.Logic.{⊎_elim}
use mathlib.Core.List.{List, [], ◌∷◌, Memᴰ}
use lib.ListN.{get_or, get_or-eq_default}
use lib.Seq.{ext_get_or}
use borrow.Author.Tests.{eqb-false, ne_eqb}
use Rattle.theory.specs.Fold.{either, any_of}
use Rattle.theory.specs.Game.{Target, absent, to}
use Rattle.theory.specs.Rounds.{Arena, bad, spoilt_by, fell, final_ranks, kept, masks}
use Rattle.theory.specs.Table.{bit}
use Rattle.theory.specs.Closing.{restrict, SizedMasks, StandingMasks, BelowMasks}
use Rattle.theory.proofs.Fold.{not_both, below?, implies_not, same_test}
use Rattle.theory.proofs.Masks.{bits_ext, bit_high, some_bit, bit_some}
use Rattle.theory.proofs.Rounds.{unspoilt, unspoilt_outcome}
use Rattle.theory.proofs.Region.{kept_right, kept_is, region_safe, region_largest, allowed, allows_unspoilt, region_mask, mask_region}

-- outcomes behind a test: a test that fails spoils them
pub behind : (fallen : ℕ → Bool) (b : Bool) (os : List Target)
    → any_of (bad fallen) (cond b os (absent ∷ [])) ≡ either (not b) (any_of (bad fallen) os)
unfolding any_of bad either
behind fallen true os = refl
behind fallen false os = refl

-- masks of the right sizes
module _ (E : Arena) (m : List ℕ) (sized : SizedMasks E m) where
  pub mask_node : (k : ℕ) → (get_or m k 0 ≡ 0 → ⊥) → k < E.nodes
  mask_node k n =
      ⊎_elim
      (λ (h : k < E.nodes). h)
      (λ (h : E.nodes ≤ k). absurd (n (get_or-eq_default m 0 (rw sized.count h))))
      (below? k E.nodes)

  pub bit_action : (k c : ℕ) → bit (get_or m k 0) c ≡ true → c < E.actions
  bit_action k c e =
      ⊎_elim
      (λ (h : c < E.actions). h)
      (λ (h : E.actions ≤ c). absurd (not_both e (bit_high (get_or m k 0) E.actions c (sized.small k) h)))
      (below? c E.actions)

  -- that lie below each other are the same
  pub masks_same : (m' : List ℕ) → SizedMasks E m' → BelowMasks m m' → BelowMasks m' m → m ≡ m'
  masks_same m' sized' f g =
      ext_get_or 0 m m' (sized.count ∙ sym sized'.count)
      (λ k h. bits_ext E.actions _ _ (sized.small k) (sized'.small k) (λ c l. same_test _ _ (f k c) (g k c)))

-- what the rounds leave where only some actions are permitted
module _ (E : Arena) (permits : ℕ → ℕ → Bool) where
  abbrev inner : Arena
  inner = restrict E permits

  abbrev final : List ℕ
  final = final_ranks inner

  restrict_spoilt : (fallen : ℕ → Bool) (k c : ℕ) → spoilt_by inner fallen k c ≡ either (not (permits k c)) (spoilt_by E fallen k c)
  unfolding spoilt_by
  restrict_spoilt fallen k c = behind fallen (permits k c) (E.step k c)

  -- what is unspoilt there is permitted and unspoilt
  restrict_unspoilt : (fallen : ℕ → Bool) (k c : ℕ) → spoilt_by inner fallen k c ≡ false
      → (permits k c ≡ true) × (spoilt_by E fallen k c ≡ false)
  restrict_unspoilt fallen k c e = implies_not _ _ (sym (restrict_spoilt fallen k c) ∙ e)

  pub masks_allowed : (k c : ℕ) → bit (get_or (masks inner) k 0) c ≡ true → permits k c ≡ true
  masks_allowed k c b = (restrict_unspoilt (fell final) k c (allowed inner k c b).unspoilt).0

  -- where steps lead to nodes of the right side, the masks stand
  pub masks_standing : ((k c k' : ℕ) → Memᴰ (to k') (E.step k c) → (k' < E.nodes) × (E.right k' ≡ true))
      → StandingMasks E (masks inner)
  masks_standing reach =
      record {
        right = λ k h n. kept_right inner final k (mask_region inner k h n);
        safe = λ k h n. region_safe inner k h (mask_region inner k h n);
        unspoilt =
            λ k c h l b.
            let u = (restrict_unspoilt (fell final) k c (allowed inner k c b).unspoilt).1 in
            unspoilt E _ k c
            (λ o i.
            let x = unspoilt_outcome E (fell final) k c u i in
            let r = reach k c x.0 (rw x.1 at i) in
            (x.0, x.1, ne_eqb _ 0 (region_mask inner x.0 r.0 (kept_is inner final x.0 r.1 x.2))));
      }

  -- and hold all others that stand
  module _ (m : List ℕ) (sized : SizedMasks E m) (standing : StandingMasks E m)
      (below : (k c : ℕ) → bit (get_or m k 0) c ≡ true → permits k c ≡ true) where
    standing_outcome : (k c : ℕ) → k < E.nodes → bit (get_or m k 0) c ≡ true → (o : Target) → Memᴰ o (E.step k c)
        → (k' : ℕ) × (o ≡ to k') × (get_or m k' 0 ≡ 0 → ⊥)
    standing_outcome k c h b o i =
        let x = unspoilt_outcome E _ k c (standing.unspoilt k c h (bit_action E m sized k c b) b) i in
        (x.0, x.1, eqb-false _ 0 x.2)

    standing_stood : (k : ℕ) → (get_or m k 0 ≡ 0 → ⊥) → fell final k ≡ false
    standing_stood =
        region_largest inner (λ k. get_or m k 0 ≡ 0 → ⊥)
        (λ k h r n.
        let (c, l, b) = some_bit (get_or m k 0) E.actions (sized.small k) n in
        record {
          safe = standing.safe k h n;
          action = c;
          action_lt = l;
          inside = λ o i. standing_outcome k c h b o (rw (below k c b) at i);
        })

    pub standing_kept : (k : ℕ) → (get_or m k 0 ≡ 0 → ⊥) → kept inner final k ≡ true
    standing_kept k n = kept_is inner final k (standing.right k (mask_node E m sized k n) n) (standing_stood k n)

    pub standing_below : BelowMasks m (masks inner)
    standing_below k c b =
        let n = bit_some (get_or m k 0) c b in
        let h = mask_node E m sized k n in
        allows_unspoilt inner k c
        (record {
          node = h;
          region = standing_kept k n;
          action = bit_action E m sized k c b;
          unspoilt =
              unspoilt inner _ k c
              (λ o i.
              let x = standing_outcome k c h b o (rw (below k c b) at i) in
              (x.0, x.1, standing_stood x.0 x.2));
        })
