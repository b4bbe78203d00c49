-- Laws of specs/Fold.antt: tests, folds over indices, tabulated lists. Assumes nothing.
use Prim.Native.Nat.{ℕ, zero, suc, ◌+◌, ◌-◌, ◌≤◌, ◌<◌}
use mathlib.Core.Path.{◌≡◌, refl, sym, ◌∙◌, ap, fun_ext}
use mathlib.Core.Bool.{Bool, true, false, not, cond, true≢false, false≢true}
use mathlib.Core.Logic.{◌⊎◌, inl, inr, ⊎_elim, ◌↔◌}
use mathlib.Core.List.Memᴰ
use mathlib.Core.List.{List, [], ◌∷◌, ◌++◌, map, Memᴰ}
use Rattle.std.proofs.Common.{Some, None, is_some}
use native.Mathlib.Omega.{arith}
use native.Mathlib.Nat.{eq-or-lt_of_le, le_of_suc-le-suc}
use native.Mathlib.Numerals.{add-one}
use lib.Dec.{leb}
use lib.ListN.{length, get_or, set, length-set, get_or-eq_default}
use lib.Seq.{get_or-set_same, get_or-set_other, ext_get_or}
use borrow.Author.Tests.{leb-true, le-leb, not-true, not-false}
-- the project's short names for the library's case distinctions: a test passes or fails, a number is below another or not, or is it or not
pub use Rattle.std.proofs.lemmas.Bool.{cases_Bool as bool, cases_lt as below?, cases_eq as same?}
pub use mathlib.Core.Bool.{not-not as not_not}
use Rattle.theory.specs.Fold.{both, either, all_below, any_below, first_not, last_with, count, any_of, tabulate}

pub not_both : {b : Bool} → b ≡ true → b ≡ false → ⊥
not_both p q = true≢false (sym p ∙ q)

-- two tests with the same truth are the same
pub same_test : (a b : Bool) → (a ≡ true → b ≡ true) → (b ≡ true → a ≡ true) → a ≡ b
same_test true b f g = sym (f refl)
same_test false true f g = g refl
same_test false false f g = refl

pub both_true : (a b : Bool) → a ≡ true → b ≡ true → both a b ≡ true
unfolding both
both_true a b p q = rw p q

pub both_left : (a b : Bool) → both a b ≡ true → a ≡ true
unfolding both
both_left true b e = refl
both_left false b e = e

pub both_right : (a b : Bool) → both a b ≡ true → b ≡ true
unfolding both
both_right true b e = e
both_right false b e = absurd (false≢true e)

pub both_false : (a b : Bool) → b ≡ false → both a b ≡ false
unfolding both
both_false true b e = e
both_false false b e = refl

pub both_none : (a b : Bool) → a ≡ false → both a b ≡ false
unfolding both
both_none a b e = rw e

-- where the first passes, the second decides
pub both_second : (a b : Bool) → a ≡ true → both a b ≡ b
unfolding both
both_second a b e = rw e

pub both_first : (a b : Bool) → b ≡ true → both a b ≡ a
unfolding both
both_first true b e = e
both_first false b e = refl

pub either_left : (a b : Bool) → a ≡ true → either a b ≡ true
unfolding either
either_left a b p = rw p

pub either_right : (a b : Bool) → b ≡ true → either a b ≡ true
unfolding either
either_right true b p = refl
either_right false b p = p

pub either_cases : (a b : Bool) → either a b ≡ true → (a ≡ true) ⊎ (b ≡ true)
unfolding either
either_cases true b e = inl refl
either_cases false b e = inr e

pub either_false : (a b : Bool) → either a b ≡ false → (a ≡ false) × (b ≡ false)
unfolding either
either_false true b e = absurd (true≢false e)
either_false false b e = (refl, e)

pub either_none : (a b : Bool) → a ≡ false → b ≡ false → either a b ≡ false
unfolding either
either_none a b p q = rw p q

pub either_second : (a b : Bool) → a ≡ false → either a b ≡ b
unfolding either
either_second a b e = rw e

pub either_first : (a b : Bool) → b ≡ false → either a b ≡ a
unfolding either
either_first true b e = refl
either_first false b e = e

-- a test inside the other adds nothing
pub either_inside : (a b : Bool) → (b ≡ true → a ≡ true) → either a b ≡ a
unfolding either
either_inside true b f = refl
either_inside false true f = sym (f refl)
either_inside false false f = refl

pub either_swap : (a b : Bool) → either a b ≡ either b a
unfolding either
either_swap true true = refl
either_swap true false = refl
either_swap false true = refl
either_swap false false = refl

pub either_assoc : (a b c : Bool) → either (either a b) c ≡ either a (either b c)
unfolding either
either_assoc true b c = refl
either_assoc false b c = refl

-- a test that asks b only where a holds
module _ (a b : Bool) where
  pub implied : (a ≡ true → b ≡ true) → either (not a) b ≡ true
  implied f = ⊎_elim (λ (t : a ≡ true). either_right _ _ (f t)) (λ (n : a ≡ false). either_left _ _ (rw n)) (bool a)

  pub implies : either (not a) b ≡ true → a ≡ true → b ≡ true
  implies e t = ⊎_elim (λ n. absurd (not_both t (not-true a n))) (λ h. h) (either_cases _ _ e)

  pub implies_not : either (not a) b ≡ false → (a ≡ true) × (b ≡ false)
  implies_not e =
      ⊎_elim
      (λ (t : a ≡ true). (t, ⊎_elim (λ h. absurd (not_both (implied (λ t. h)) e)) (λ n. n) (bool b)))
      (λ (n : a ≡ false). absurd (not_both (implied (λ t. absurd (not_both t n))) e))
      (bool a)

-- what a test's result r says of b, as a branch on `!r` finds it
pub failed : {r b : Bool} → r ≡ b → not r ≡ true → b ≡ false
failed {r} e f = sym e ∙ not-true r f

pub passed : {r b : Bool} → r ≡ b → not r ≡ false → b ≡ true
passed {r} e f = sym e ∙ not-false r f

-- every index below n

pub all_none : (p : ℕ → Bool) → all_below p 0 ≡ true
unfolding all_below
all_none p = refl

pub all_suc : (p : ℕ → Bool) (n : ℕ) → all_below p (suc n) ≡ both (all_below p n) (p n)
unfolding all_below
all_suc p n = refl

-- an index below n + 1 is below n or is n
pub below_cases : {i n : ℕ} → i < suc n → (i < n) ⊎ (i ≡ n)
below_cases h = ⊎_elim (λ q. inr q) (λ l. inl l) (eq-or-lt_of_le (le_of_suc-le-suc h))

-- an entry of a list after a store: the stored one, or the old one
pub stored : (l : List ℕ) (i v j : ℕ) → i < length l → ((j ≡ i) × (get_or (set l i v) j 0 ≡ v)) ⊎ ((j ≡ i → ⊥) × (get_or (set l i v) j 0 ≡ get_or l j 0))
stored l i v j h =
    ⊎_elim
    (λ (e : j ≡ i). inl (e, rw e (get_or-set_same l i v 0 h)))
    (λ d. inr (d, get_or-set_other l i j v 0 d))
    (same? j i)

pub all_at : (p : ℕ → Bool) (n : ℕ) → all_below p n ≡ true → (i : ℕ) → i < n → p i ≡ true
all_at p zero e i h = absurd (omega arith)
all_at p (suc n) e i h =
    let b = rw (all_suc p n) at e in
    ⊎_elim
    (λ (l : i < n). all_at p n (both_left _ _ b) i l)
    (λ (q : i ≡ n). rw q (both_right _ _ b))
    (below_cases h)

pub all_below_lem : (p : ℕ → Bool) (n : ℕ) → ((i : ℕ) → i < n → p i ≡ true) → all_below p n ≡ true
all_below_lem p zero f = all_none p
all_below_lem p (suc n) f = rw (all_suc p n) (both_true _ _ (all_below_lem p n (λ i h. f i (omega arith))) (f n (omega arith)))

pub all_fails : (p : ℕ → Bool) (i n : ℕ) → i < n → p i ≡ false → all_below p n ≡ false
all_fails p i n h e =
    ⊎_elim (λ (t : all_below p n ≡ true). absurd (not_both (all_at p n t i h) e)) (λ f. f) (bool (all_below p n))

-- one index more, as a loop's next turn finds it: r is the test's result at i, and it passed
pub all_again : (p : ℕ → Bool) (i : ℕ) {r : Bool} → all_below p i ≡ true → r ≡ p i → r ≡ true → all_below p (i + 1) ≡ true
all_again p i e q t = rw (add-one i, all_suc p i) (both_true _ _ e (sym q ∙ t))

-- the same where the branch is on `!r`, and the test that failed
pub all_next : (p : ℕ → Bool) (i : ℕ) {r : Bool} → all_below p i ≡ true → r ≡ p i → not r ≡ false → all_below p (i + 1) ≡ true
all_next p i {r} e q t = all_again p i e q (not-false r t)

pub all_stopped : (p : ℕ → Bool) (i n : ℕ) {r : Bool} → i < n → r ≡ p i → not r ≡ true → all_below p n ≡ false
all_stopped p i n h q t = all_fails p i n h (failed q t)

-- a shorter range that fails fails the longer one
pub all_short : (p : ℕ → Bool) {c n : ℕ} → c ≤ n → all_below p c ≡ false → all_below p n ≡ false
all_short p {c} {n} l e =
    ⊎_elim
    (λ (t : all_below p n ≡ true).
    absurd (not_both (all_below_lem p c (λ i h. all_at p n t i (omega arith))) e))
    (λ f. f)
    (bool (all_below p n))

-- the loop is over
pub all_done : (p : ℕ → Bool) {k n : ℕ} → k ≤ n → n ≤ k → all_below p k ≡ true → all_below p n ≡ true
all_done p {k} {n} l g e = let q : n ≡ k = omega arith in rw q e

-- the least index that fails

pub first_suc : (p : ℕ → Bool) (n : ℕ) → first_not p (suc n) ≡ cond (all_below p n) n (first_not p n)
unfolding first_not
first_suc p n = refl

-- it is below the bound, fails, and all before it pass
pub record First (p : ℕ → Bool) (n i : ℕ) : Type 0 where
  pub below : i < n
  pub fails : p i ≡ false
  pub before : (j : ℕ) → j < i → p j ≡ true

first_last : (p : ℕ → Bool) (n : ℕ) → all_below p (suc n) ≡ false → all_below p n ≡ true → First p (suc n) (first_not p (suc n))
unfolding both
first_last p n e t =
    rw (first_suc p n, t)
    (record { below = omega arith; fails = rw (all_suc p n, t) at e; before = all_at p n t })

first_earlier : (p : ℕ → Bool) (n : ℕ) → all_below p n ≡ false → First p n (first_not p n) → First p (suc n) (first_not p (suc n))
first_earlier p n f r = rw (first_suc p n, f) (record { below = omega arith; fails = r.fails; before = r.before })

pub first : (p : ℕ → Bool) (n : ℕ) → all_below p n ≡ false → First p n (first_not p n)
first p zero e = absurd (not_both (all_none p) e)
first p (suc n) e =
    ⊎_elim (λ t. first_last p n e t) (λ f. first_earlier p n f (first p n f)) (bool (all_below p n))

-- two least failing indices of one test are the same
pub first_unique : (p : ℕ → Bool) {n m i j : ℕ} → First p n i → First p m j → i ≡ j
first_unique p {n} {m} {i} {j} a b =
    ⊎_elim
    (λ (l : i < j). absurd (not_both (b.before i l) a.fails))
    (λ (g : j ≤ i).
    ⊎_elim (λ (l : j < i). absurd (not_both (a.before j l) b.fails)) (λ (h : i ≤ j). omega arith) (below? j i))
    (below? i j)

-- a search among the n indices that stops at the first that fails, and gives n where none does

pub first_stops : (p : ℕ → Bool) (i : ℕ) {n : ℕ} → i < n → all_below p i ≡ true → p i ≡ false → i ≡ first_not p (suc n)
first_stops p i {n} h e f =
    first_unique p {n = suc n}
    (record { below = omega arith; fails = f; before = all_at p i e })
    (first p (suc n) (all_fails p i (suc n) (omega arith) f))

pub first_ends : (p : ℕ → Bool) {i n : ℕ} → i ≤ n → n ≤ i → all_below p i ≡ true → i ≡ first_not p (suc n)
first_ends p {i} {n} h g e =
    let q : i ≡ n = omega arith in
    let a : all_below p n ≡ true = rw q at e in
    let w : first_not p (suc n) ≡ n = rw (first_suc p n, a) in
    q ∙ sym w

-- what its result says
pub first_stopped : (p : ℕ → Bool) {i n : ℕ} → i ≡ first_not p (suc n) → i < n → (all_below p n ≡ false) × (i ≡ first_not p n)
first_stopped p {i} {n} e h =
    ⊎_elim
    (λ (t : all_below p n ≡ true). let q : i ≡ n = e ∙ rw (first_suc p n, t) in absurd (omega arith))
    (λ (f : all_below p n ≡ false). (f, e ∙ rw (first_suc p n, f)))
    (bool (all_below p n))

pub first_ended : (p : ℕ → Bool) {i n : ℕ} → i ≡ first_not p (suc n) → n ≤ i → all_below p n ≡ true
first_ended p {i} {n} e h =
    ⊎_elim
    (λ (t : all_below p n ≡ true). t)
    (λ (f : all_below p n ≡ false).
    let q : i ≡ first_not p n = e ∙ rw (first_suc p n, f) in
    let b = (first p n f).below in
    absurd (omega arith))
    (bool (all_below p n))

-- tests that agree below n find the same
pub all_same : (p q : ℕ → Bool) (n : ℕ) → ((i : ℕ) → i < n → p i ≡ q i) → all_below p n ≡ all_below q n
unfolding all_below
all_same p q zero f = refl
all_same p q (suc n) f = rw (all_same p q n (λ i h. f i (omega arith)), f n (omega arith))

pub first_same : (p q : ℕ → Bool) (n : ℕ) → ((i : ℕ) → i < n → p i ≡ q i) → first_not p (suc n) ≡ first_not q (suc n)
first_same p q zero f = rw (first_suc p 0, first_suc q 0, all_none p, all_none q)
first_same p q (suc n) f =
    rw (first_suc p (suc n), first_suc q (suc n), all_same p q (suc n) f, first_same p q n (λ i h. f i (omega arith)))

-- the greatest index that passes

module _ (p : ℕ → Bool) (i : ℕ) where
  last_zero : last_with p i 0 ≡ None
  unfolding last_with
  last_zero = refl

  last_top : {n : ℕ} → i ≤ n → p n ≡ true → last_with p i (suc n) ≡ Some n
  unfolding last_with
  last_top {n} h t = rw (both_true (leb i n) (p n) (le-leb i n h) t)

  last_below_lem : {n : ℕ} → (i ≤ n → p n ≡ false) → last_with p i (suc n) ≡ last_with p i n
  unfolding last_with
  last_below_lem {n} f =
      ⊎_elim
      (λ (l : leb i n ≡ true). rw (both_false (leb i n) (p n) (f (leb-true i n l))))
      (λ (g : leb i n ≡ false). rw (both_none (leb i n) (p n) g))
      (bool (leb i n))

  top? : (n : ℕ) → ((i ≤ n) × (p n ≡ true)) ⊎ (i ≤ n → p n ≡ false)
  top? n =
      ⊎_elim
      (λ (t : p n ≡ true). ⊎_elim (λ (l : n < i). inr (λ h. absurd (omega arith))) (λ (h : i ≤ n). inl (h, t)) (below? n i))
      (λ (f : p n ≡ false). inr (λ h. f))
      (bool (p n))

  abbrev Last : ℕ → ℕ → Type 0
  Last n k = (i ≤ k) × (k < n) × (p k ≡ true) × ((j : ℕ) → k < j → j < n → p j ≡ false)

  last_is : (n k : ℕ) → last_with p i n ≡ Some k → Last n k
  last_is zero k e = let n = last_zero in cc
  last_is (suc n) k e =
      ⊎_elim
      (λ (t : (i ≤ n) × (p n ≡ true)).
      let m = last_top t.0 t.1 in
      let q : n ≡ k = cc in
      rw (← q) (t.0, omega arith, t.1, λ j a b. absurd (omega arith)))
      (λ (f : i ≤ n → p n ≡ false).
      let r = last_is n k (sym (last_below_lem f) ∙ e) in
      let h = r.0 in
      let b = r.1 in (
        h,
        omega arith,
        r.2,
        λ j a l. ⊎_elim (λ (m : j < n). r.3 j a m) (λ (m : j ≡ n). rw m (f (omega arith))) (below_cases l),
      ))
      (top? n)

  is_last : (n k : ℕ) → Last n k → last_with p i n ≡ Some k
  is_last zero k r = let b = r.1 in absurd (omega arith)
  is_last (suc n) k r =
      ⊎_elim
      (λ (l : k < n). last_below_lem (λ h. r.3 n l (omega arith)) ∙ is_last n k (r.0, l, r.2, λ j a b. r.3 j a (omega arith)))
      (λ (e : k ≡ n). ap (λ (m : ℕ). last_with p i (suc m)) (sym e) ∙ last_top r.0 r.2)
      (below_cases r.1)

  -- W-203, for every condition: "it stops at the last line that meets the test's condition", where it holds, and at no later one does
  pub last_iff : (n k : ℕ)
      → (last_with p i n ≡ Some k) ↔ ((i ≤ k) × (k < n) × (p k ≡ true) × ((j : ℕ) → k < j → j < n → p j ≡ false))
  last_iff n k = (last_is n k, is_last n k)

  last_none : (n : ℕ) → last_with p i n ≡ None → (j : ℕ) → i ≤ j → j < n → p j ≡ false
  last_none zero e j a b = absurd (omega arith)
  last_none (suc n) e j a b =
      ⊎_elim
      (λ (t : (i ≤ n) × (p n ≡ true)). let m = last_top t.0 t.1 in cc)
      (λ (f : i ≤ n → p n ≡ false).
      ⊎_elim
      (λ (m : j < n). last_none n (sym (last_below_lem f) ∙ e) j a m)
      (λ (m : j ≡ n). rw m (f (omega arith)))
      (below_cases b))
      (top? n)

  none_last : (n : ℕ) → ((j : ℕ) → i ≤ j → j < n → p j ≡ false) → last_with p i n ≡ None
  none_last zero f = last_zero
  none_last (suc n) f = last_below_lem (λ h. f n h (omega arith)) ∙ none_last n (λ j a b. f j a (omega arith))

  -- "and finds none exactly if no line does"
  pub last_none_iff : (n : ℕ) → (last_with p i n ≡ None) ↔ ((j : ℕ) → i ≤ j → j < n → p j ≡ false)
  last_none_iff n = (last_none n, none_last n)

  -- a search from the end down that has come to n: what its next turn finds, r being the test's result, and its end

  pub last_here : {n : ℕ} {r : Bool} → i < n → r ≡ p (n - 1) → r ≡ true → last_with p i n ≡ Some (n - 1)
  last_here {n} h e t =
      let q : n ≡ suc (n - 1) = omega arith in
      ap (last_with p i) q ∙ last_top (omega arith) (sym e ∙ t)

  pub last_passed : {n : ℕ} {r : Bool} → i < n → r ≡ p (n - 1) → r ≡ false → last_with p i n ≡ last_with p i (n - 1)
  last_passed {n} h e f =
      let q : n ≡ suc (n - 1) = omega arith in
      ap (last_with p i) q ∙ last_below_lem (λ l. sym e ∙ f)

  pub last_over : {n : ℕ} → n ≤ i → last_with p i n ≡ None
  last_over {n} h = none_last n (λ j a b. absurd (omega arith))

-- some index below n

pub any_none : (p : ℕ → Bool) → any_below p 0 ≡ false
unfolding any_below
any_none p = refl

pub any_suc : (p : ℕ → Bool) (n : ℕ) → any_below p (suc n) ≡ either (any_below p n) (p n)
unfolding any_below
any_suc p n = refl

pub any_holds : (p : ℕ → Bool) (i n : ℕ) → i < n → p i ≡ true → any_below p n ≡ true
any_holds p i zero h e = absurd (omega arith)
any_holds p i (suc n) h e =
    rw (any_suc p n)
    (⊎_elim
    (λ (l : i < n). either_left _ _ (any_holds p i n l e))
    (λ (q : i ≡ n). either_right _ _ (rw q at e))
    (below_cases h))

pub any_some : (p : ℕ → Bool) (n : ℕ) → any_below p n ≡ true → (i : ℕ) × (i < n) × (p i ≡ true)
any_some p zero e = absurd (not_both e (any_none p))
any_some p (suc n) e =
    ⊎_elim
    (λ (t : any_below p n ≡ true). let r = any_some p n t in (r.0, omega arith, r.2))
    (λ (t : p n ≡ true). (n, omega arith, t))
    (either_cases _ _ (rw (any_suc p n) at e))

pub any_below_none : (p : ℕ → Bool) (n : ℕ) → any_below p n ≡ false → (i : ℕ) → i < n → p i ≡ false
any_below_none p n e i h =
    ⊎_elim (λ (t : p i ≡ true). absurd (not_both (any_holds p i n h t) e)) (λ f. f) (bool (p i))

-- one index more of a search that has found nothing
pub any_again : (p : ℕ → Bool) (i : ℕ) {r : Bool} → any_below p i ≡ false → r ≡ p i → r ≡ false → any_below p (i + 1) ≡ false
any_again p i e q t = rw (add-one i, any_suc p i) (either_none _ _ e (sym q ∙ t))

pub any_done : (p : ℕ → Bool) {k n : ℕ} → k ≤ n → n ≤ k → any_below p k ≡ false → any_below p n ≡ false
any_done p {k} {n} l g e = let q : n ≡ k = omega arith in rw q e

-- some element of a list

module _ {A : Type 0} (p : A → Bool) where
  pub any_of_nil : any_of p [] ≡ false
  unfolding any_of
  any_of_nil = refl

  pub any_of_cons : (x : A) (xs : List A) → any_of p (x ∷ xs) ≡ either (p x) (any_of p xs)
  unfolding any_of
  any_of_cons x xs = refl

  pub any_of_holds : {x : A} {xs : List A} → Memᴰ x xs → p x ≡ true → any_of p xs ≡ true
  any_of_holds {x} {xs = []} m e = absurd (Memᴰ.not-nil m)
  any_of_holds {x} {xs = y ∷ ys} m e =
      rw (any_of_cons y ys)
      (⊎_elim
      (λ (q : x ≡ y). either_left _ _ (rw q at e))
      (λ (n : Memᴰ x ys). either_right _ _ (any_of_holds {xs = ys} n e))
      (Memᴰ.cases_cons m))

  pub any_of_none : {x : A} {xs : List A} → Memᴰ x xs → any_of p xs ≡ false → p x ≡ false
  any_of_none {x} {xs} m e =
      ⊎_elim (λ (t : p x ≡ true). absurd (not_both (any_of_holds m t) e)) (λ f. f) (bool (p x))

  pub any_of_fails : (xs : List A) → ((x : A) → Memᴰ x xs → p x ≡ false) → any_of p xs ≡ false
  any_of_fails [] f = any_of_nil
  any_of_fails (y ∷ ys) f =
      rw (any_of_cons y ys) (either_none _ _ (f y (Memᴰ.head refl)) (any_of_fails ys (λ x m. f x (Memᴰ.tail m))))

  pub any_of_some : (xs : List A) → any_of p xs ≡ true → (x : A) × Memᴰ x xs × (p x ≡ true)
  any_of_some [] e = absurd (not_both e any_of_nil)
  any_of_some (y ∷ ys) e =
      ⊎_elim
      (λ (t : p y ≡ true). (y, (Memᴰ.head refl), t))
      (λ (t : any_of p ys ≡ true). let r = any_of_some ys t in (r.0, Memᴰ.tail r.1, r.2))
      (either_cases _ _ (rw (any_of_cons y ys) at e))

pub any_of_append : {A : Type 0} (p : A → Bool) (xs ys : List A) → any_of p (xs ++ ys) ≡ either (any_of p xs) (any_of p ys)
any_of_append p [] ys = sym (either_second _ _ (any_of_nil p))
any_of_append p (x ∷ xs) ys =
    any_of_cons p x (xs ++ ys)
    ∙ ap (either (p x)) (any_of_append p xs ys)
    ∙ sym (ap (λ b. either b (any_of p ys)) (any_of_cons p x xs) ∙ either_assoc _ _ _)

pub any_of_map : {A B : Type 0} (p : B → Bool) (f : A → B) (xs : List A) → any_of p (map f xs) ≡ any_of (λ x. p (f x)) xs
any_of_map p f [] = any_of_nil p ∙ sym (any_of_nil (λ x. p (f x)))
any_of_map p f (x ∷ xs) =
    any_of_cons p (f x) (map f xs)
    ∙ ap (either (p (f x))) (any_of_map p f xs)
    ∙ sym (any_of_cons (λ y. p (f y)) x xs)

-- tabulated lists

module _ {A : Type 0} where
  pub tabulate_zero : (f : ℕ → A) (i : ℕ) → tabulate f i 0 ≡ []
  unfolding tabulate
  tabulate_zero f i = refl

  pub tabulate_suc : (f : ℕ → A) (i n : ℕ) → tabulate f i (suc n) ≡ f i ∷ tabulate f (suc i) n
  unfolding tabulate
  tabulate_suc f i n = refl

  pub length_tabulate : (f : ℕ → A) (i n : ℕ) → length (tabulate f i n) ≡ n
  unfolding tabulate
  length_tabulate f i zero = refl
  length_tabulate f i (suc n) = ap suc (length_tabulate f (suc i) n)

  pub get_d_tabulate_from : (f : ℕ → A) (i n k : ℕ) (a : A) → k < n → get_or (tabulate f i n) k a ≡ f (i + k)
  unfolding tabulate
  get_d_tabulate_from f i zero k a h = absurd (omega arith)
  get_d_tabulate_from f i (suc n) zero a h = let q : i ≡ i + 0 = omega arith in ap f q
  get_d_tabulate_from f i (suc n) (suc k) a h =
      let q : suc i + k ≡ i + suc k = omega arith in
      get_d_tabulate_from f (suc i) n k a (omega arith) ∙ ap f q

  pub get_d_tabulate : (f : ℕ → A) (n k : ℕ) (a : A) → k < n → get_or (tabulate f 0 n) k a ≡ f k
  get_d_tabulate f n k a h = let q : 0 + k ≡ k = omega arith in get_d_tabulate_from f 0 n k a h ∙ ap f q

  pub get_d_tabulate_out : (f : ℕ → A) (n k : ℕ) (a : A) → n ≤ k → get_or (tabulate f 0 n) k a ≡ a
  get_d_tabulate_out f n k a h = get_or-eq_default (tabulate f 0 n) a (rw (length_tabulate f 0 n) h)

  pub tabulate_same : (f g : ℕ → A) (a : A) (n : ℕ) → ((k : ℕ) → k < n → f k ≡ g k) → tabulate f 0 n ≡ tabulate g 0 n
  tabulate_same f g a n h =
      ext_get_or a _ _ (length_tabulate f 0 n ∙ sym (length_tabulate g 0 n))
      (λ k l.
      let m : k < n = rw (length_tabulate f 0 n) at l in
      get_d_tabulate f n k a m ∙ h k m ∙ sym (get_d_tabulate g n k a m))

  -- one entry of a tabulated list is replaced
  pub tabulate_set : (f g : ℕ → A) (n v : ℕ) (x : A) → v < n → g v ≡ x → ((k : ℕ) → (k ≡ v → ⊥) → g k ≡ f k)
      → set (tabulate f 0 n) v x ≡ tabulate g 0 n
  tabulate_set f g n v x h here other =
      ext_get_or x _ _ (length-set (tabulate f 0 n) v x ∙ length_tabulate f 0 n ∙ sym (length_tabulate g 0 n))
      (λ k l.
      let m : k < n = rw (length-set (tabulate f 0 n) v x, length_tabulate f 0 n) at l in
      ⊎_elim
      (λ (e : k ≡ v).
      rw e (get_or-set_same (tabulate f 0 n) v x x (rw (length_tabulate f 0 n) h) ∙ sym (get_d_tabulate g n v x h ∙ here)))
      (λ (e : k ≡ v → ⊥).
      get_or-set_other (tabulate f 0 n) v k x x e
      ∙ get_d_tabulate f n k x m
      ∙ sym (get_d_tabulate g n k x m ∙ other k e))
      (same? k v))

  -- the last entry by itself
  tabulate_last_from : (f : ℕ → A) (i n : ℕ) → tabulate f i (suc n) ≡ tabulate f i n ++ (f (i + n) ∷ [])
  unfolding tabulate
  tabulate_last_from f i zero = let q : i ≡ i + 0 = omega arith in ap (λ k. f k ∷ []) q
  tabulate_last_from f i (suc n) =
      let q : suc i + n ≡ i + suc n = omega arith in
      ap (λ (l : List A). f i ∷ l) (tabulate_last_from f (suc i) n ∙ ap (λ k. tabulate f (suc i) n ++ (f k ∷ [])) q)

  pub tabulate_last : (f : ℕ → A) (n : ℕ) → tabulate f 0 (suc n) ≡ tabulate f 0 n ++ (f n ∷ [])
  tabulate_last f n = let q : 0 + n ≡ n = omega arith in tabulate_last_from f 0 n ∙ ap (λ k. tabulate f 0 n ++ (f k ∷ [])) q

  -- a range of a tabulated list that is over
  pub tabulate_none : (f : ℕ → A) (i e : ℕ) → e ≤ i → tabulate f i (e - i) ≡ []
  tabulate_none f i e h = let q : e - i ≡ 0 = omega arith in rw q (tabulate_zero f i)

pub count_le : (p : ℕ → Bool) (n : ℕ) → count p n ≤ n
unfolding count
count_le p zero = omega arith
count_le p (suc n) =
    let l = count_le p n in
    ⊎_elim (λ (e : p n ≡ true). rw e (omega arith)) (λ (e : p n ≡ false). rw e (omega arith)) (bool (p n))

pub count_mono : (p q : ℕ → Bool) (n : ℕ) → ((i : ℕ) → p i ≡ true → q i ≡ true) → count p n ≤ count q n
unfolding count
count_mono p q zero f = omega arith
count_mono p q (suc n) f =
    let l = count_mono p q n f in
    ⊎_elim
    (λ (e : p n ≡ true). rw (e, f n e) (omega arith))
    (λ (e : p n ≡ false). rw e (omega arith))
    (bool (p n))

-- a test that passes less often passes at the same indices or at fewer
pub count_less : (p q : ℕ → Bool) (n : ℕ) → ((i : ℕ) → p i ≡ true → q i ≡ true)
    → ((i : ℕ) → i < n → p i ≡ q i) ⊎ (count p n < count q n)
unfolding count
count_less p q zero f = inl (λ i h. absurd (omega arith))
count_less p q (suc n) f =
    ⊎_elim
    (λ (e : p n ≡ true). alike (e ∙ sym (f n e)) (count_less p q n f))
    (λ (e : p n ≡ false).
    ⊎_elim
    (λ (t : q n ≡ true). let l = count_mono p q n f in inr (rw (e, t) (omega arith)))
    (λ (t : q n ≡ false). alike (e ∙ sym t) (count_less p q n f))
    (bool (q n)))
    (bool (p n))
  where
    alike : p n ≡ q n → ((i : ℕ) → i < n → p i ≡ q i) ⊎ (count p n < count q n)
        → ((i : ℕ) → i < suc n → p i ≡ q i) ⊎ (count p n + cond (p n) 1 0 < count q n + cond (q n) 1 0)
    alike e r =
        ⊎_elim
        (λ g. inl (λ i h. ⊎_elim (λ (l : i < n). g i l) (λ (m : i ≡ n). rw m e) (below_cases h)))
        (λ (l : count p n < count q n). inr (rw e (omega arith)))
        r

count_suc : (p : ℕ → Bool) (n : ℕ) → count p (suc n) ≡ count p n + cond (p n) 1 0
unfolding count
count_suc p n = refl

-- no index from m on counts
pub count_short : (p : ℕ → Bool) (m n : ℕ) → m ≤ n → ((i : ℕ) → m ≤ i → p i ≡ false) → count p n ≡ count p m
count_short p m zero h f = let z : m ≡ 0 = omega arith in ap (count p) (sym z)
count_short p m (suc n) h f =
    ⊎_elim
    (λ (l : m < suc n).
    let e = f n (omega arith) in
    let r = count_short p m n (omega arith) f in
    rw (count_suc p n, e) (omega arith))
    (λ (g : suc n ≤ m). let z : m ≡ suc n = omega arith in ap (count p) (sym z))
    (below? m (suc n))

-- one index more
pub count_more : (p q : ℕ → Bool) (v n : ℕ) → v < n → p v ≡ false → q v ≡ true → ((k : ℕ) → (k ≡ v → ⊥) → q k ≡ p k) → count q n ≡ count p n + 1
count_more p q v zero h f t o = absurd (omega arith)
count_more p q v (suc n) h f t o =
    ⊎_elim
    (λ (l : v < n).
    let r = count_more p q v n l f t o in
    let s = o n (λ e. omega arith) in
    rw (count_suc q n, count_suc p n, s) (omega arith))
    (λ (e : v ≡ n).
    let r = same n (omega arith) in
    let a : p n ≡ false = rw e at f in
    let b : q n ≡ true = rw e at t in
    rw (count_suc q n, count_suc p n, a, b) (omega arith))
    (below_cases h)
  where
    same : (m : ℕ) → m ≤ v → count q m ≡ count p m
    same zero l = omega (arith, count_le q 0, count_le p 0)
    same (suc m) l =
        let r = same m (omega arith) in
        let s = o m (λ e. omega arith) in
        rw (count_suc q m, count_suc p m, s) (omega arith)

any_first : (p : ℕ → Bool) (n : ℕ) → any_below p (suc n) ≡ either (p 0) (any_below (λ k. p (suc k)) n)
unfolding any_below either
any_first p zero = sym (either_first (p 0) false refl)
any_first p (suc n) = rw (any_suc p (suc n), any_first p n) (either_assoc (p 0) _ _)

-- an entry of a tabulated list passes exactly if its index does
pub any_tabulate : {A : Type 0} (p : A → Bool) (f : ℕ → A) (i n : ℕ) → any_of p (tabulate f i n) ≡ any_below (λ k. p (f (i + k))) n
any_tabulate p f i zero = rw (tabulate_zero f i, any_of_nil p) (sym (any_none (λ k. p (f (i + k)))))
any_tabulate p f i (suc n) =
    rw (tabulate_suc f i n, any_of_cons p (f i) (tabulate f (suc i) n), any_tabulate p f (suc i) n)
    (sym (any_first (λ k. p (f (i + k))) n ∙ rw z (ap (either (p (f i))) (ap (λ g. any_below g n) (fun_ext (λ k. ap (λ m. p (f m)) (s k)))))))
  where
    z : i + 0 ≡ i
    z = omega arith

    s : (k : ℕ) → i + suc k ≡ suc i + k
    s k = omega arith

-- a search finds something exactly if an entry of the tabulated list passes

found_below : (p : ℕ → Bool) (i m : ℕ) → is_some (last_with p i (i + m)) ≡ any_below (λ k. p (i + k)) m
found_below p i zero = let q : i + 0 ≤ i = omega arith in ap is_some (last_over p i q) ∙ sym (any_none (λ k. p (i + k)))
found_below p i (suc m) =
    let q : i + suc m ≡ suc (i + m) = omega arith in
    ap (λ n. is_some (last_with p i n)) q
    ∙ ⊎_elim
    (λ (t : p (i + m) ≡ true). ap is_some (last_top p i (omega arith) t) ∙ sym (any_suc (λ k. p (i + k)) m ∙ either_right _ _ t))
    (λ (f : p (i + m) ≡ false).
    ap is_some (last_below_lem p i (λ h. f))
    ∙ found_below p i m
    ∙ sym (any_suc (λ k. p (i + k)) m ∙ either_first _ _ f))
    (bool (p (i + m)))

pub found_any : {A : Type 0} (p : A → Bool) (f : ℕ → A) (i n : ℕ)
    → is_some (last_with (λ k. p (f k)) i n) ≡ any_of p (tabulate f i (n - i))
found_any p f i n =
    ⊎_elim
    (λ (l : i < n).
    let q : n ≡ i + (n - i) = omega arith in
    ap (λ m. is_some (last_with (λ k. p (f k)) i m)) q
    ∙ found_below (λ k. p (f k)) i (n - i)
    ∙ sym (any_tabulate p f i (n - i)))
    (λ (g : n ≤ i).
    ap is_some (last_over (λ k. p (f k)) i g)
    ∙ sym (ap (any_of p) (tabulate_none f i n g) ∙ any_of_nil p))
    (below? i n)
