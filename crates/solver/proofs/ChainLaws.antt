-- Chains visit exactly the places of their key. Assumes nothing.
use Prim.Native.Nat.{ℕ, zero, suc, ◌+◌, ◌-◌, ◌≤◌, ◌<◌}
use mathlib.Core.Path.{◌≡◌, refl, sym, ◌∙◌, ap}
use mathlib.Core.Logic.{⊎_elim}
use mathlib.Core.List.{List, [], ◌∷◌, Memᴰ}
use native.Mathlib.Omega.{arith}
use lib.Dec.{eqb}
use lib.ListN.{length, get_or, set, length-set, get_or-eq_default}
use lib.Seq.{get_or-set_same, get_or-set_other}
use borrow.Author.Tests.{eq-eqb, ne_eqb, lt-ltb}
use Rattle.theory.proofs.Fold.{bool, same?, below?}
use Rattle.solver.specs.code.Chains.{last_of, chain_of, chain, head_of, Linked}
use Rattle.theory.specs.Game.{absent, to}
use Rattle.sheet.specs.code.Arrays.{index_entries, absent_mark, mark_of}

module _ (key : ℕ → ℕ) (x : ℕ) where
  pub last_here : (n : ℕ) → key n ≡ x → last_of key x (suc n) ≡ suc n
  unfolding last_of
  last_here n e = rw (eq-eqb (key n) x e)

  pub last_before : (n : ℕ) → (key n ≡ x → ⊥) → last_of key x (suc n) ≡ last_of key x n
  unfolding last_of
  last_before n e = rw (ne_eqb (key n) x e)

  pub last_le : (n : ℕ) → last_of key x n ≤ n
  unfolding last_of
  last_le zero = omega arith
  last_le (suc n) = grind (arith, last_le n, bool (eqb (key n) x))

module _ (links : List ℕ) (down : (i : ℕ) → get_or links i 0 ≤ i) where
  ends : (f : ℕ) → chain_of links f 0 ≡ []
  unfolding chain_of
  ends zero = refl
  ends (suc f) = refl

  -- more room changes nothing
  fuel_same : (f e g : ℕ) → e ≤ f → e ≤ g → chain_of links f e ≡ chain_of links g e
  unfolding chain_of
  fuel_same zero zero g h l = sym (ends g)
  fuel_same zero (suc i) g h l = absurd (omega arith)
  fuel_same (suc f) zero g h l = sym (ends g)
  fuel_same (suc f) (suc i) zero h l = absurd (omega arith)
  fuel_same (suc f) (suc i) (suc g) h l =
      let d = down i in
      ap (λ (c : List ℕ). i ∷ c) (fuel_same f (get_or links i 0) g (omega arith) (omega arith))

  pub chain_next : (i : ℕ) → chain links (suc i) ≡ i ∷ chain links (get_or links i 0)
  unfolding chain chain_of
  chain_next i = ap (λ (c : List ℕ). i ∷ c) (fuel_same i (get_or links i 0) (get_or links i 0) (down i) (omega arith))

pub chain_end : (links : List ℕ) → chain links 0 ≡ []
unfolding chain chain_of
chain_end links = refl

pub chain_done : (links : List ℕ) (e : ℕ) → (1 ≤ e → ⊥) → chain links e ≡ []
chain_done links zero h = chain_end links
chain_done links (suc i) h = absurd (h (omega arith))

-- a chain that is not at its end
pub chain_step : (links : List ℕ) (e : ℕ) {i l : ℕ} → ((k : ℕ) → get_or links k 0 ≤ k) → 1 ≤ e → i ≡ e - 1 → l ≡ get_or links i 0
    → chain links e ≡ i ∷ chain links l
chain_step links zero d h p q = absurd (omega arith)
chain_step links (suc j) {i} {l} d h p q = let r : i ≡ j = omega arith in rw (q, r) (chain_next links d j)

pub head_in : (heads : List ℕ) (x : ℕ) → x < index_entries → head_of heads x ≡ get_or heads x 0
unfolding head_of
head_in heads x h = rw (lt-ltb x index_entries h)

-- the places of an indexed chain, from the last one below b on
module _ (key : ℕ → ℕ) (count : ℕ) (heads links : List ℕ) (ix : Linked key count heads links) where
  down : (i : ℕ) → get_or links i 0 ≤ i
  down = ix.down

  next_link : (x b : ℕ) → x < index_entries → key b ≡ x → b < count → get_or links b 0 ≡ last_of key x b
  next_link x b s e h = ix.link b h (rw e s) ∙ ap (λ (y : ℕ). last_of key y b) e

  visits : (x b i : ℕ) → x < index_entries → b ≤ count → Memᴰ i (chain links (last_of key x b)) → (i < b) × (key i ≡ x)
  unfolding last_of
  visits x zero i s h m = absurd (mathlib.Core.List.Memᴰ.not-nil (rw chain_end at m))
  visits x (suc b) i s h m =
      ⊎_elim
      (λ (e : key b ≡ x).
      let c : chain links (last_of key x (suc b)) ≡ b ∷ chain links (last_of key x b) =
      ap (chain links) (last_here key x b e) ∙ chain_next links down b ∙ ap (λ (y : ℕ). b ∷ chain links y) (next_link x b s e (omega arith)) in
      ⊎_elim
      (λ (q : i ≡ b). ((let z : i < suc b = omega arith in z), ap key q ∙ e))
      (λ (t : Memᴰ i (chain links (last_of key x b))). let v = visits x b i s (omega arith) t in let l = v.0 in ((let z : i < suc b = omega arith in z), v.1))
      (mathlib.Core.List.Memᴰ.cases_cons (rw c at m)))
      (λ e. let v = visits x b i s (omega arith) (rw (last_before key x b e) at m) in let l = v.0 in ((let z : i < suc b = omega arith in z), v.1))
      (same? (key b) x)

  visited : (x b i : ℕ) → x < index_entries → b ≤ count → i < b → key i ≡ x → Memᴰ i (chain links (last_of key x b))
  visited x zero i s h l e = absurd (omega arith)
  visited x (suc b) i s h l e =
      ⊎_elim
      (λ (d : key b ≡ x).
      let c : chain links (last_of key x (suc b)) ≡ b ∷ chain links (last_of key x b) =
      ap (chain links) (last_here key x b d) ∙ chain_next links down b ∙ ap (λ (y : ℕ). b ∷ chain links y) (next_link x b s d (omega arith)) in
      rw c
      (⊎_elim
      (λ (q : i ≡ b). mathlib.Core.List.Memᴰ.head q)
      (λ (q : i ≡ b → ⊥). mathlib.Core.List.Memᴰ.tail (visited x b i s (omega arith) (omega arith) e))
      (same? i b)))
      (λ d.
      rw (last_before key x b d)
      (⊎_elim
      (λ (q : i ≡ b). absurd (d (ap key (sym q) ∙ e)))
      (λ (q : i ≡ b → ⊥). visited x b i s (omega arith) (omega arith) e)
      (same? i b)))
      (same? (key b) x)

  pub chain_places : (x i : ℕ) → x < index_entries → Memᴰ i (chain links (head_of heads x)) → (i < count) × (key i ≡ x)
  chain_places x i h m = visits x count i h (omega arith) (rw (head_in heads x h, ix.head x h) at m)

  pub chain_visits : (x i : ℕ) → x < index_entries → i < count → key i ≡ x → Memᴰ i (chain links (head_of heads x))
  chain_visits x i h l e = rw (head_in heads x h, ix.head x h) (visited x count i h (omega arith) l e)

-- nothing is linked where all is 0
pub linked_none : (key : ℕ → ℕ) (heads links : List ℕ) → length heads ≡ index_entries → ((x : ℕ) → get_or heads x 0 ≡ 0) → ((i : ℕ) → get_or links i 0 ≡ 0)
    → Linked key 0 heads links
unfolding last_of
linked_none key heads links s a b =
    record {
      size = s;
      head = λ x h. a x;
      link = λ i h k. absurd (omega arith);
      down = λ i. rw (b i) (omega arith);
    }

-- a first link is at most the number of places
pub linked_below : (key : ℕ → ℕ) (n : ℕ) (heads links : List ℕ) → Linked key n heads links → (x : ℕ) → get_or heads x 0 ≤ n
linked_below key n heads links ix x =
    ⊎_elim
    (λ (a : x < index_entries). let l = last_le key x n in rw (ix.head x a) l)
    (λ (a : index_entries ≤ x). let z : get_or heads x 0 ≡ 0 = get_or-eq_default heads 0 (let s = ix.size in omega arith) in omega arith)
    (below? x index_entries)

-- one place more
module _ (key : ℕ → ℕ) (n : ℕ) (heads links : List ℕ) (ix : Linked key n heads links) (room : n < length links) where
  pub linked_next : {x : ℕ} → x ≡ key n → Linked key (n + 1) (set heads x (n + 1)) (set links n (get_or heads x 0))
  linked_next {x} e =
      record {
        size = length-set {A = ℕ} heads x (n + 1) ∙ ix.size;
        head = λ y h.
            let s = ix.size in
            grind (arith, same? y x, get_or-set_same heads x (n + 1) 0, get_or-set_other heads x y (n + 1) 0, ix.head y, last_here key y n, last_before key y n);
        link = λ i h k.
            grind (arith, same? i n, get_or-set_same links n (get_or heads x 0) 0 room, get_or-set_other links n i (get_or heads x 0) 0, ix.head x, ix.link i);
        down = λ i.
            grind (arith, same? i n, linked_below key n heads links ix x, get_or-set_same links n (get_or heads x 0) 0 room, get_or-set_other links n i (get_or heads x 0) 0, ix.down i);
      }

-- the code of src/index.rt

pub marked_absent : mark_of absent ≡ absent_mark
unfolding mark_of
marked_absent = refl

pub marked_to : (t : ℕ) → mark_of (to t) ≡ t
unfolding mark_of
marked_to t = refl

pub linked_pushed : (key : ℕ → ℕ) (n : ℕ) (heads links : List ℕ) {h l : List ℕ} {x : ℕ} → Linked key n heads links → n < length links → x ≡ key n
    → h ≡ set heads x (n + 1) → l ≡ set links n (get_or heads x 0) → Linked key (n + 1) h l
linked_pushed key n heads links ix room e p q = rw (p, q) (linked_next key n heads links ix room e)
