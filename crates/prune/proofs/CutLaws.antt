-- Taking bits out of masks: a bit that the judging rule does not allow goes out of no part that stands, and a sweep that changes nothing
-- leaves masks that do. Assumes nothing.
use Prim.Native.Nat.{ℕ, zero, suc, ◌+◌, ◌^◌, ◌≤◌, ◌<◌}
use mathlib.Core.Path.{◌≡◌, refl, sym, ◌∙◌, ap}
use mathlib.Core.Bool.{Bool, true, false, not, cond}
use mathlib.Core.Logic.{◌⊎◌, ⊎_elim}
use mathlib.Core.List.{List, [], ◌∷◌}
use native.Mathlib.Omega.{arith}
use native.Mathlib.Numerals.{add-one}
use lib.Dec.{eqb}
use lib.Pow.{pow_pos}
use lib.ListN.{length, get_or, set, length-set, get_or-eq_default}
use lib.Seq.{get_or-set_same, get_or-set_other, set-get_or}
use borrow.Author.Tests.{eq-eqb, eqb-true, eqb-false, ltb-true, lt-ltb, not-true, not-false}
use Rattle.theory.specs.Fold.{both, either}
use Rattle.theory.specs.Rounds.{Arena, spoilt_by, mask_below}
use Rattle.theory.specs.Table.{bit}
use Rattle.theory.specs.Closing.{SizedMasks, BelowMasks}
use Rattle.theory.proofs.Fold.{bool, not_both, below?, stored, both_true, both_left, both_right, both_second, either_cases, either_false, below_cases}
use Rattle.theory.proofs.Masks.{bit_high, bits_ext, bits_le, mask_lt, mask_bit, mask_high, zero_bit}
use Rattle.theory.proofs.Rounds.{spoilt_more}
use Rattle.walk.specs.code.Walks.{fallen_by}
use Rattle.rule.specs.code.Parts.{mark_for, stays, part_of}
use Rattle.rule.proofs.PartCode.{mark_fallen}
use Rattle.prune.specs.code.Pruning.{fallen_in, Shown, part_now, cut_at, swept_to, changed_to, Standing, Cut, Pruned, total}

-- the bits of the part that may stand

module _ (E : Arena) (fallen : ℕ → Bool) (k m : ℕ) where
  part_bits : (b : Bool) (c : ℕ) → bit (cond b (mask_below (stays E fallen k m) E.actions) 0) c ≡ true → bit m c ≡ true
  unfolding stays
  part_bits true c e =
      ⊎_elim
      (λ (h : c < E.actions). both_left _ _ (sym (mask_bit (stays E fallen k m) E.actions c h) ∙ e))
      (λ (h : E.actions ≤ c). absurd (not_both e (mask_high (stays E fallen k m) E.actions c h)))
      (below? c E.actions)
  part_bits false c e = absurd (not_both e (zero_bit c))

  part_sub : (c : ℕ) → bit (part_of E fallen k m) c ≡ true → bit m c ≡ true
  unfolding part_of
  part_sub = part_bits (both (E.right k) (E.safe k))

  part_has : (c : ℕ) → c < E.actions → E.right k ≡ true → E.safe k ≡ true → bit m c ≡ true → spoilt_by E fallen k c ≡ false
      → bit (part_of E fallen k m) c ≡ true
  unfolding part_of stays
  part_has c h r s e n =
      rw (both_true _ _ r s) (mask_bit (stays E fallen k m) E.actions c h ∙ both_true _ _ e (rw n))

  part_le : part_of E fallen k m ≤ m
  part_le = bits_le (part_of E fallen k m) _ _ (omega arith) part_sub

  part_bounded : (b : Bool) → cond b (mask_below (stays E fallen k m) E.actions) 0 < 2 ^ E.actions
  part_bounded true = mask_lt (stays E fallen k m) E.actions
  part_bounded false = pow_pos E.actions

  pub part_lt : part_of E fallen k m < 2 ^ E.actions
  unfolding part_of
  part_lt = part_bounded (both (E.right k) (E.safe k))

-- what counts as fallen

fallen_gone : (masks : List ℕ) (k : ℕ) → fallen_in masks k ≡ true → (k < length masks) × (get_or masks k 0 ≡ 0)
unfolding fallen_in
fallen_gone masks k e = (ltb-true _ _ (both_left _ _ e), eqb-true _ 0 (both_right _ _ e))

gone_fallen : (masks : List ℕ) (k : ℕ) → k < length masks → get_or masks k 0 ≡ 0 → fallen_in masks k ≡ true
unfolding fallen_in
gone_fallen masks k h e = both_true _ _ (lt-ltb _ _ h) (eq-eqb _ 0 e)

-- one node's mask is stored

module _ (E : Arena) (masks : List ℕ) (k v : ℕ) (size : length masks ≡ E.nodes) (h : k < E.nodes)
    (less : (c : ℕ) → bit v c ≡ true → bit (get_or masks k 0) c ≡ true)
    (enough : (c : ℕ) → c < E.actions → E.right k ≡ true → E.safe k ≡ true → bit (get_or masks k 0) c ≡ true
    → spoilt_by E (fallen_in masks) k c ≡ false → bit v c ≡ true) where
  at : (j : ℕ)
      → ((j ≡ k) × (get_or (set masks k v) j 0 ≡ v)) ⊎ ((j ≡ k → ⊥) × (get_or (set masks k v) j 0 ≡ get_or masks j 0))
  at j = stored masks k v j (omega arith)

  store_below : BelowMasks (set masks k v) masks
  store_below j c e =
      ⊎_elim
      (λ ((q, s) : (j ≡ k) × (get_or (set masks k v) j 0 ≡ v)). rw q (less c (ap (λ m. bit m c) (sym s) ∙ e)))
      (λ ((q, s) : (j ≡ k → ⊥) × (get_or (set masks k v) j 0 ≡ get_or masks j 0)). ap (λ m. bit m c) (sym s) ∙ e)
      (at j)

  module _ (x : List ℕ) (small : SizedMasks E x) (stands : Standing E x) (below : BelowMasks x masks) where
    -- what has lost its mask here has none there
    gone_there : (j : ℕ) → fallen_in masks j ≡ true → fallen_in x j ≡ true
    gone_there j e =
        let (i, z) = fallen_gone masks j e in
        gone_fallen x j (rw (small.count, ← size) i)
        (bits_ext E.actions _ 0 (small.small j) (pow_pos E.actions)
        (λ c l.
        ⊎_elim
        (λ (t : bit (get_or x j 0) c ≡ true). absurd (not_both (below j c t) (ap (λ m. bit m c) z ∙ zero_bit c)))
        (λ f. f ∙ sym (zero_bit c))
        (bool (bit (get_or x j 0) c))))

    some : (c : ℕ) → bit (get_or x k 0) c ≡ true → get_or x k 0 ≡ 0 → ⊥
    some c e z = not_both e (ap (λ m. bit m c) z ∙ zero_bit c)

    low : (c : ℕ) → bit (get_or x k 0) c ≡ true → c < E.actions
    low c e = ⊎_elim (λ l. l) (λ (l : E.actions ≤ c). absurd (not_both e (high c l))) (below? c E.actions)
      where
        high : (c : ℕ) → E.actions ≤ c → bit (get_or x k 0) c ≡ false
        high c l = bit_high (get_or x k 0) E.actions c (small.small k) l

    unspoilt_here : (c : ℕ) → bit (get_or x k 0) c ≡ true → spoilt_by E (fallen_in masks) k c ≡ false
    unspoilt_here c e =
        ⊎_elim
        (λ (t : spoilt_by E (fallen_in masks) k c ≡ true).
        absurd (not_both (spoilt_more E _ (fallen_in x) k c gone_there t) (stands.unspoilt k c h (low c e) e)))
        (λ f. f)
        (bool (spoilt_by E (fallen_in masks) k c))

    store_holds : BelowMasks x (set masks k v)
    store_holds j c e =
        ⊎_elim
        (λ ((q, s) : (j ≡ k) × (get_or (set masks k v) j 0 ≡ v)).
        let b : bit (get_or x k 0) c ≡ true = ap (λ (i : ℕ). bit (get_or x i 0) c) (sym q) ∙ e in
        ap (λ m. bit m c) s
        ∙ enough c (low c b) (stands.right k h (some c b)) (stands.safe k h (some c b)) (below k c b) (unspoilt_here c b))
        (λ ((q, s) : (j ≡ k → ⊥) × (get_or (set masks k v) j 0 ≡ get_or masks j 0)). ap (λ m. bit m c) s ∙ below j c e)
        (at j)

  pub store_cut : Cut E masks (set masks k v)
  store_cut = record { size = length-set {A = ℕ} masks k v; below = store_below; holds = store_holds }

-- cuts

module _ (E : Arena) where
  pub cut_none : (masks : List ℕ) → Cut E masks masks
  cut_none masks = record { size = refl; below = λ k c e. e; holds = λ x s t b. b }

  pub cut_on : {l m n : List ℕ} → Cut E l m → Cut E m n → Cut E l n
  cut_on a b =
      record {
        size = b.size ∙ a.size;
        below = λ k c e. a.below k c (b.below k c e);
        holds = λ x s t h. b.holds x s t (a.holds x s t h);
      }

  module _ (masks : List ℕ) (k : ℕ) where
    pub cut_cut : length masks ≡ E.nodes → k < E.nodes → Cut E masks (cut_at E masks k)
    unfolding cut_at part_now
    cut_cut size h =
        store_cut E masks k _ size h (part_sub E (fallen_in masks) k (get_or masks k 0)) (part_has E (fallen_in masks) k (get_or masks k 0))

    -- a node whose mask may stand as it is keeps it
    pub cut_whole : part_now E masks k ≡ get_or masks k 0 → masks ≡ cut_at E masks k
    unfolding cut_at
    cut_whole q = sym (ap (set masks k) q ∙ set-get_or masks k 0)

    -- and one without a mask has nothing to lose
    pub cut_gone : get_or masks k 0 ≡ 0 → masks ≡ cut_at E masks k
    unfolding part_now
    cut_gone z =
        let l = part_le E (fallen_in masks) k (get_or masks k 0) in
        let q : part_of E (fallen_in masks) k (get_or masks k 0) ≡ get_or masks k 0 = omega arith in
        cut_whole q

-- marks

module _ (masks marks : List ℕ) where
  pub shown_store : (k v : ℕ) → Shown masks marks → k < length masks → length masks ≤ length marks
      → Shown (set masks k v) (set marks k (mark_for v))
  unfolding fallen_by fallen_in mark_for
  shown_store k v s h r =
      record {
        same = λ j.
            ⊎_elim
            (λ ((q, e) : (j ≡ k) × (get_or (set marks k (cond (eqb v 0) 1 0)) j 0 ≡ cond (eqb v 0) 1 0)).
            let m : get_or (set masks k v) j 0 ≡ v = rw q (get_or-set_same masks k v 0 h) in
            rw (e, m, length-set {A = ℕ} masks k v)
            (mark_fallen (eqb v 0) ∙ sym (both_second _ _ (lt-ltb j (length masks) (omega arith)))))
            (λ ((q, e) : (j ≡ k → ⊥) × (get_or (set marks k (cond (eqb v 0) 1 0)) j 0 ≡ get_or marks j 0)).
            rw (e, get_or-set_other masks k j v 0 q, length-set {A = ℕ} masks k v) (s.same j))
            (stored marks k (cond (eqb v 0) 1 0) j (omega arith));
      }

-- a sweep

swept_suc : (E : Arena) (masks : List ℕ) (k : ℕ) → swept_to E masks (suc k) ≡ cut_at E (swept_to E masks k) k
unfolding swept_to
swept_suc E masks k = refl

changed_suc : (E : Arena) (masks : List ℕ) (k : ℕ)
    → changed_to E masks (suc k)
    ≡ either (changed_to E masks k) (not (eqb (get_or (cut_at E (swept_to E masks k) k) k 0) (get_or (swept_to E masks k) k 0)))
unfolding changed_to
changed_suc E masks k = refl

-- as a loop's next turn finds them

pub swept_next : (E : Arena) (masks : List ℕ) (k : ℕ) {w v : List ℕ} → w ≡ swept_to E masks k → v ≡ cut_at E w k → v ≡ swept_to E masks (k + 1)
swept_next E masks k e q = q ∙ ap (λ (w : List ℕ). cut_at E w k) e ∙ sym (swept_suc E masks k) ∙ ap (swept_to E masks) (sym (add-one k))

pub changed_next : (E : Arena) (masks : List ℕ) (k : ℕ) {w v : List ℕ} {b r : Bool} → w ≡ swept_to E masks k → v ≡ cut_at E w k
    → b ≡ changed_to E masks k → r ≡ either b (not (eqb (get_or v k 0) (get_or w k 0))) → r ≡ changed_to E masks (k + 1)
changed_next E masks k {w} {v} e q c r = r ∙ rw (c, q, e, add-one k) (sym (changed_suc E masks k))

module _ (E : Arena) (masks : List ℕ) (size : length masks ≡ E.nodes) where
  pub swept_cut : (k : ℕ) → k ≤ E.nodes → Cut E masks (swept_to E masks k)
  unfolding swept_to
  swept_cut zero h = cut_none E masks
  swept_cut (suc k) h =
      let c = swept_cut k (omega arith) in cut_on E c (cut_cut E (swept_to E masks k) k (c.size ∙ size) (omega arith))

  -- one that changes nothing
  module _ (k : ℕ) (h : k < E.nodes) (same : swept_to E masks k ≡ masks)
      (quiet : not (eqb (get_or (cut_at E (swept_to E masks k) k) k 0) (get_or (swept_to E masks k) k 0)) ≡ false) where
    quiet_here : part_now E masks k ≡ get_or masks k 0
    unfolding cut_at
    quiet_here =
        let e : get_or (cut_at E (swept_to E masks k) k) k 0 ≡ get_or (swept_to E masks k) k 0 = eqb-true _ _ (not-false _ quiet) in
        sym (get_or-set_same masks k (part_now E masks k) 0 (omega arith))
        ∙ ap (λ (w : List ℕ). get_or (cut_at E w k) k 0) (sym same)
        ∙ e
        ∙ ap (λ (w : List ℕ). get_or w k 0) same

    quiet_next : swept_to E masks (suc k) ≡ masks
    unfolding cut_at
    quiet_next = swept_suc E masks k ∙ rw same (ap (set masks k) quiet_here ∙ set-get_or masks k 0)

  quiet_parts : (k : ℕ) → changed_to E masks (suc k) ≡ false
      → (changed_to E masks k ≡ false) × (not (eqb (get_or (cut_at E (swept_to E masks k) k) k 0) (get_or (swept_to E masks k) k 0)) ≡ false)
  quiet_parts k e = let f = sym (changed_suc E masks k) ∙ e in either_false _ _ f

  quiet_same : (k : ℕ) → k ≤ E.nodes → changed_to E masks k ≡ false → swept_to E masks k ≡ masks
  unfolding swept_to
  quiet_same zero h e = refl
  quiet_same (suc k) h e =
      let (a, b) = quiet_parts k e in unfold swept_to in (quiet_next k (omega arith) (quiet_same k (omega arith) a) b)

  quiet_whole : (n : ℕ) → n ≤ E.nodes → changed_to E masks n ≡ false → (k : ℕ) → k < n → part_now E masks k ≡ get_or masks k 0
  quiet_whole zero h e k l = absurd (omega arith)
  quiet_whole (suc n) h e k l =
      let (a, b) = quiet_parts n e in
      ⊎_elim
      (λ (i : k < n). quiet_whole n (omega arith) a k i)
      (λ (i : k ≡ n). rw i (quiet_here n (omega arith) (quiet_same n (omega arith) a) b))
      (below_cases l)

  pub quiet_pruned : {n : ℕ} → n ≡ E.nodes → changed_to E masks n ≡ false → (swept_to E masks n ≡ masks) × Pruned E masks masks
  quiet_pruned q e = (
    quiet_same _ (omega arith) e,
    record { cut = cut_none E masks; whole = λ k h. quiet_whole _ (omega arith) e k (omega arith) },
  )

-- what is left stands, and has no bit too many

module _ (E : Arena) (masks masks' : List ℕ) (pruned : Pruned E masks masks') (size : length masks ≡ E.nodes) where
  part_some : (b : Bool) (m : ℕ) → (cond b m 0 ≡ 0 → ⊥) → b ≡ true
  part_some true m n = refl
  part_some false m n = absurd (n refl)

  abbrev staying : ℕ → ℕ
  staying k = mask_below (stays E (fallen_in masks') k (get_or masks' k 0)) E.actions

  whole_at_lem : (k : ℕ) → k < E.nodes → cond (both (E.right k) (E.safe k)) (staying k) 0 ≡ get_or masks' k 0
  unfolding part_now part_of
  whole_at_lem k h = pruned.whole k h

  sided : (k : ℕ) → k < E.nodes → (get_or masks' k 0 ≡ 0 → ⊥) → both (E.right k) (E.safe k) ≡ true
  sided k h n = part_some _ _ (λ z. n (sym (whole_at_lem k h) ∙ z))

  stays_at : (k c : ℕ) → k < E.nodes → c < E.actions → bit (get_or masks' k 0) c ≡ true
      → stays E (fallen_in masks') k (get_or masks' k 0) c ≡ true
  stays_at k c h l e =
      let s = sided k h (λ z. not_both e (ap (λ m. bit m c) z ∙ zero_bit c)) in
      let w : staying k ≡ get_or masks' k 0 = rw s at (whole_at_lem k h) in
      sym (mask_bit (stays E (fallen_in masks') k (get_or masks' k 0)) E.actions c l) ∙ ap (λ m. bit m c) w ∙ e

  pub pruned_standing : Standing E masks'
  unfolding stays
  pruned_standing =
      record {
        right = λ k h n. both_left _ _ (sided k h n);
        safe = λ k h n. both_right _ _ (sided k h n);
        unspoilt = λ k c h l e. not-true _ (both_right _ _ (stays_at k c h l e));
      }

  pub pruned_sized : SizedMasks E masks'
  pruned_sized =
      record {
        count = pruned.cut.size ∙ size;
        small = λ k.
            ⊎_elim
            (λ (h : k < E.nodes). rw (← (pruned.whole k h)) (part_now_lt k))
            (λ (h : E.nodes ≤ k).
            let z : get_or masks' k 0 ≡ 0 = get_or-eq_default masks' 0 (omega (arith, pruned.cut.size)) in
            rw z (pow_pos E.actions))
            (below? k E.nodes);
      }
    where
      part_now_lt : (k : ℕ) → part_now E masks' k < 2 ^ E.actions
      part_now_lt k = unfold part_now in (part_lt E (fallen_in masks') k (get_or masks' k 0))

-- the sum of the masks, which every change makes less

total_le : (masks masks' : List ℕ) → length masks' ≡ length masks → ((k : ℕ) → get_or masks' k 0 ≤ get_or masks k 0)
    → total masks' ≤ total masks
unfolding total
total_le [] [] e f = omega arith
total_le [] (m ∷ masks') e f = absurd (omega arith)
total_le (m ∷ masks) [] e f = omega arith
total_le (m ∷ masks) (n ∷ masks') e f =
    omega (arith, f 0, total_le masks masks' (omega arith) (λ k. f (suc k)))

total_set : (masks : List ℕ) (k v : ℕ) → k < length masks → v < get_or masks k 0 → total (set masks k v) < total masks
unfolding total
total_set [] k v h l = absurd (omega arith)
total_set (m ∷ masks) zero v h l = omega arith
total_set (m ∷ masks) (suc k) v h l = omega (arith, total_set masks k v (omega arith) l)

pub cut_total : (E : Arena) {masks masks' : List ℕ} → Cut E masks masks' → total masks' ≤ total masks
cut_total E {masks} {masks'} c =
    total_le masks masks' c.size (λ k. bits_le (get_or masks' k 0) _ _ (omega arith) (c.below k))

module _ (E : Arena) (masks : List ℕ) (size : length masks ≡ E.nodes) where
  less_here : (k : ℕ) → k < E.nodes
      → not (eqb (get_or (cut_at E (swept_to E masks k) k) k 0) (get_or (swept_to E masks k) k 0)) ≡ true
      → total (swept_to E masks (suc k)) < total (swept_to E masks k)
  unfolding cut_at part_now
  less_here k h e =
      let c = swept_cut E masks size k (omega arith) in
      let w = swept_to E masks k in
      let i : k < length w = omega (arith, c.size) in
      let s = get_or-set_same w k (part_of E (fallen_in w) k (get_or w k 0)) 0 i in
      let l = part_le E (fallen_in w) k (get_or w k 0) in
      let n = eqb-false _ _ (not-true _ e) in
      rw (swept_suc E masks k)
      (total_set w k _ i (less l (λ q. n (s ∙ q))))
    where
      less : {a b : ℕ} → a ≤ b → (a ≡ b → ⊥) → a < b
      less l n = omega arith

  pub changed_less : (k : ℕ) → k ≤ E.nodes → changed_to E masks k ≡ true → total (swept_to E masks k) < total masks
  unfolding changed_to
  changed_less zero h e = absurd (not_both e refl)
  changed_less (suc k) h e =
      ⊎_elim
      (λ (a : changed_to E masks k ≡ true).
      let l = changed_less k (omega arith) a in
      let c = cut_cut E (swept_to E masks k) k ((swept_cut E masks size k (omega arith)).size ∙ size) (omega arith) in
      let t = cut_total E c in
      rw (swept_suc E masks k) (omega arith))
      (λ b. let l = less_here k (omega arith) b in let t = cut_total E (swept_cut E masks size k (omega arith)) in omega arith)
      (either_cases _ _ e)
