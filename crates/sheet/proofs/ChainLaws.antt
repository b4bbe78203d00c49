-- What a chain of iterators asks of each element or index, in the project's own words (theory/specs/Fold.antt): p is the test by index.
-- Assumes nothing.
use Prim.Native.Nat.{ℕ, zero, suc, ◌+◌, ◌≤◌, ◌<◌}
use mathlib.Core.Path.{◌≡◌, refl, sym, ◌∙◌, ap, subst}
use mathlib.Core.Bool.{Bool, true, false, not, cond}
use mathlib.Core.List.{List, [], ◌∷◌}
use mathlib.Core.Logic.{⊎_elim}
use native.Mathlib.Omega.{arith}
use denote.Param.Members.{Mut}
use denote.Ref.{Bor}
use lib.ListN.{length, get_or}
use lib.Seq.{ext_get_or}
use Rattle.std.specs.Array.{IsFromFnResult, IsFromFnResultFrom}
use Rattle.std.proofs.Common.{Option, Some, None, Iter}
use Rattle.std.specs.declared.ops.Range.{Range}
use Rattle.std.specs.Slice.Iter.{iter_rest}
use Rattle.std.specs.Fn.{Called, CalledAt}
use Rattle.std.specs.Iterator.{YieldsThen}
use Rattle.std.specs.List.{FoldsTo, list_all, list_any, range_with_len}
use Rattle.std.specs.Option.{MatchOption}
use Rattle.std.proofs.iter.Yields.{fronts, nat_range_steps}
use Rattle.std.proofs.lemmas.Iterator.{YieldsList-from_range, YieldsList-from_slice, first_from_Range}
use Rattle.std.proofs.lemmas.Iterator.Search.{all_from_yields_List, any_from_yields_List}
use Rattle.std.proofs.lemmas.List.Folds.{list_all_at, list_any_at}
use Rattle.std.proofs.lemmas.List.FromFn.{length-range_with_len, get_or-range_with_len}
use borrow.Author.Tests.{not-true, not-false}
use Rattle.theory.specs.Fold.{all_below, any_below, first_not, tabulate}
use Rattle.theory.proofs.Fold.{bool, below?, not_both, same_test, all_none, all_at, all_below_lem, any_some, any_below_none, first_stops, first_stopped, length_tabulate, get_d_tabulate}

module _ {A : Type 0} (test : A → Bool) (d : A) where
  all_pass : (xs : List A) → ((k : ℕ) → k < length xs → test (get_or xs k d) ≡ true) → list_all test xs ≡ true
  all_pass [] h = refl
  all_pass (x ∷ xs) h = rw (h 0 (omega arith)) (all_pass xs (λ k l. h (suc k) (omega arith)))

  passes : (xs : List A) → list_all test xs ≡ true → (k : ℕ) → k < length xs → test (get_or xs k d) ≡ true
  passes xs e k l =
      ⊎_elim (λ t. t) (λ (f : test (get_or xs k d) ≡ false). absurd (not_both e (list_all_at test xs k d l f))) (bool (test (get_or xs k d)))

  none_pass : (xs : List A) → ((k : ℕ) → k < length xs → test (get_or xs k d) ≡ false) → list_any test xs ≡ false
  none_pass [] h = refl
  none_pass (x ∷ xs) h = rw (h 0 (omega arith)) (none_pass xs (λ k l. h (suc k) (omega arith)))

  module _ (p : ℕ → Bool) (xs : List A) (same : (k : ℕ) → k < length xs → test (get_or xs k d) ≡ p k) where
    pub all_elements : list_all test xs ≡ all_below p (length xs)
    all_elements =
        same_test _ _
        (λ t. all_below_lem p (length xs) (λ k l. sym (same k l) ∙ passes xs t k l))
        (λ t. all_pass xs (λ k l. same k l ∙ all_at p (length xs) t k l))

    pub any_elements : list_any test xs ≡ any_below p (length xs)
    any_elements =
        same_test _ _
        (λ t.
        ⊎_elim
        (λ y. y)
        (λ (n : any_below p (length xs) ≡ false). absurd (not_both t (none_pass xs (λ k l. same k l ∙ any_below_none p (length xs) n k l))))
        (bool (any_below p (length xs))))
        (λ t. let i = any_some p (length xs) t in list_any_at test xs i.0 d i.1 (same i.0 i.1 ∙ i.2))

-- the same of the indices below n

in_range : (n k : ℕ) → k < n → get_or (range_with_len 0 n) k 0 ≡ k
in_range n k l = let e : 0 + k ≡ k = omega arith in get_or-range_with_len 0 n k 0 l ∙ e

module _ (p : ℕ → Bool) (n : ℕ) where
  same_index : (k : ℕ) → k < length (range_with_len 0 n) → p (get_or (range_with_len 0 n) k 0) ≡ p k
  same_index k l = ap p (in_range n k (rw (length-range_with_len 0 n) at l))

  all_range : list_all p (range_with_len 0 n) ≡ all_below p n
  all_range = all_elements p 0 p (range_with_len 0 n) same_index ∙ ap (all_below p) (length-range_with_len 0 n)

  any_range : list_any p (range_with_len 0 n) ≡ any_below p n
  any_range = any_elements p 0 p (range_with_len 0 n) same_index ∙ ap (any_below p) (length-range_with_len 0 n)

-- what `all`, `any` and `find` answer: by their clause `ran`, where the chain begins, and what each call of the closure answers

abbrev pub AllRan : {S A F : Type 0} → (S → Option A → S → Type 0) → Mut F (A × Unit {0}) Bool → S → S → F → Bool → Type 0
AllRan {S} {A} {F} steps g s u f r =
    (xs : List A) × (o : Option A) × (j : F) × YieldsThen steps s xs o u × FoldsTo (λ p x q. Called g p (x, tt) true q) f xs j
    × MatchOption o (r ≡ true) (λ x. (r ≡ false) × ((h : F) × Called g j (x, tt) false h))

abbrev pub AnyRan : {S A F : Type 0} → (S → Option A → S → Type 0) → Mut F (A × Unit {0}) Bool → S → S → F → Bool → Type 0
AnyRan {S} {A} {F} steps g s u f r =
    (xs : List A) × (o : Option A) × (j : F) × YieldsThen steps s xs o u × FoldsTo (λ p x q. Called g p (x, tt) false q) f xs j
    × MatchOption o (r ≡ false) (λ x. (r ≡ true) × ((h : F) × Called g j (x, tt) true h))

module _ {F : Type 0} {g : Mut F (ℕ × Unit {0}) Bool} {s u : Range ℕ} {f : F} {r : Bool} (p : ℕ → Bool) (n : ℕ)
    (begins : s ≡ record { start = 0; end = n }) where
  pub all_indices : AllRan nat_range_steps g s u f r → ((x : ℕ) (b : Bool) (q : F) → Called g f (x, tt) b q → (q ≡ f) × (b ≡ p x))
      → r ≡ all_below p n
  all_indices ran said =
      all_from_yields_List p u f r ran (YieldsList-from_range 0 n n begins (omega arith)) said ∙ all_range p n

  pub any_indices : AnyRan nat_range_steps g s u f r → ((x : ℕ) (b : Bool) (q : F) → Called g f (x, tt) b q → (q ≡ f) × (b ≡ p x))
      → r ≡ any_below p n
  any_indices ran said =
      any_from_yields_List p u f r ran (YieldsList-from_range 0 n n begins (omega arith)) said ∙ any_range p n

abbrev pub FindRan : {S A F : Type 0} → (S → Option A → S → Type 0) → Mut F (Bor A × Unit {0}) Bool → S → S → F → Option A → Type 0
FindRan {S} {A} {F} steps g s u f r =
    (xs : List A) × (j : F) × YieldsThen steps s xs r u × FoldsTo (λ p x q. CalledAt g p x false q) f xs j
    × MatchOption r (Unit {0}) (λ x. (h : F) × CalledAt g j x true h)

-- the search for the first index below n of which p does not hold, from index i on, as it holds of those before

module _ (p : ℕ → Bool) (i n : ℕ) (e : all_below p i ≡ true) where
  upto : (m : ℕ) → ((k : ℕ) → i ≤ k → k < m → p k ≡ true) → all_below p m ≡ true
  upto m h = all_below_lem p m (λ k l. ⊎_elim (λ (b : k < i). all_at p i e k b) (λ (b : i ≤ k). h k b l) (below? k i))

  found_first : (o : Option ℕ)
      → MatchOption o ((k : ℕ) → i ≤ k → k < n → p k ≡ true)
      (λ x. (i ≤ x) × (x < n) × (p x ≡ false) × ((k : ℕ) → i ≤ k → k < x → p k ≡ true))
      → o ≡ cond (all_below p n) None (Some (first_not p n))
  found_first None h = rw (upto n h) refl
  found_first (Some x) h =
      let y = first_stopped p (first_stops p x h.1 (upto x h.3) h.2) h.1 in
      rw y.0 (ap Some y.1)

module _ {F : Type 0} {g : Mut F (Bor ℕ × Unit {0}) Bool} {s : Range ℕ} (u : Range ℕ) {f : F} {r : Option ℕ} (p : ℕ → Bool) where
  pub find_from : (i n : ℕ) → s ≡ record { start = i; end = n } → all_below p i ≡ true → FindRan nat_range_steps g s u f r
      → ((x : ℕ) (b : Bool) (q : F) → CalledAt g f x b q → (q ≡ f) × (b ≡ not (p x))) → r ≡ cond (all_below p n) None (Some (first_not p n))
  find_from i n begins e ran said =
      found_first p i n e r
      (rw begins at
      (first_from_Range s u f r (λ x. p x ≡ false) (λ x. p x ≡ true) ran (λ x q k. not-true _ (sym (said x true q k).1))
      (λ x q k. let t = said x false q k in (t.0, not-false _ (sym t.1)))))

  pub find_index : (n : ℕ) → s ≡ record { start = 0; end = n } → FindRan nat_range_steps g s u f r
      → ((x : ℕ) (b : Bool) (q : F) → CalledAt g f x b q → (q ≡ f) × (b ≡ not (p x))) → r ≡ cond (all_below p n) None (Some (first_not p n))
  find_index n begins ran said = find_from 0 n begins (all_none p) ran said

module _ {A F : Type 0} {g : Mut F (Bor A × Unit {0}) Bool} {s u : Iter A} {f : F} {r : Bool} (test : A → Bool) (p : ℕ → Bool) (d : A)
    (xs : List A) (begins : iter_rest s ≡ xs) (same : (k : ℕ) → k < length xs → test (get_or xs k d) ≡ p k) where
  pub all_slice : AllRan fronts g s u f r → ((x : Bor A) (b : Bool) (q : F) → Called g f (x, tt) b q → (q ≡ f) × (b ≡ test x.now))
      → r ≡ all_below p (length xs)
  all_slice ran said =
      all_from_yields_List test u f r ran (YieldsList-from_slice xs begins) said ∙ all_elements test d p xs same

  pub any_slice : AnyRan fronts g s u f r → ((x : Bor A) (b : Bool) (q : F) → Called g f (x, tt) b q → (q ≡ f) × (b ≡ test x.now))
      → r ≡ any_below p (length xs)
  any_slice ran said =
      any_from_yields_List test u f r ran (YieldsList-from_slice xs begins) said ∙ any_elements test d p xs same

-- what `array::from_fn` makes

module _ {F B : Type 0} (g : Mut F (ℕ × Unit {0}) B) (h : ℕ → B) (f : F) (ys : List B) (d : B) where
  -- a call at an index below n gives h of it, and leaves the closure
  abbrev Gives : ℕ → Type 0
  Gives n = (i : ℕ) (y : B) (q : F) → i < n → Called g f (i, tt) y q → (q ≡ f) × (y ≡ h i)

  made_from : (i n : ℕ) → Gives (i + n) → (p : F) → p ≡ f → IsFromFnResultFrom g p ys i n → (k : ℕ) → k < n → get_or ys (i + k) d ≡ h (i + k)
  made_from i zero gives p e m k l = absurd (omega arith)
  made_from i (suc n) gives p e (q, y, is, called, rest) zero l =
      let r = gives i y q (omega arith) (subst (λ p. Called g p (i, tt) y q) e called) in
      let z : i + 0 ≡ i = omega arith in
      rw z (is.1 d ∙ r.1)
  made_from i (suc n) gives p e (q, y, is, called, rest) (suc k) l =
      let r = gives i y q (omega arith) (subst (λ p. Called g p (i, tt) y q) e called) in
      let z : i + suc k ≡ i + 1 + k = omega arith in
      rw z (made_from (i + 1) n (λ j y q m. gives j y q (omega arith)) q r.0 rest k (omega arith))

  -- an array of n entries that calls of f gave
  pub made_is : (n : ℕ) → Gives n → IsFromFnResult g f ys n → ys ≡ tabulate h 0 n
  made_is n gives made =
      ext_get_or d ys (tabulate h 0 n) (made.long ∙ sym (length_tabulate h 0 n))
      (λ k l.
      let m : k < n = omega (arith, made.long) in
      let z : 0 + k ≡ k = omega arith in
      let r = made_from 0 n (λ i y q o. gives i y q (omega arith)) f refl made.each k m in
      (rw z at r) ∙ sym (get_d_tabulate h n k d m))
