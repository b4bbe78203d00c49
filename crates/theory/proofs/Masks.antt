-- Laws of masks (specs/Rounds.antt, mask_below; specs/Table.antt, bit; specs/Exact.antt, lowest_in), for every number of actions:
-- a mask is its bits, and its lowest bit is its count of trailing zeros. Assumes nothing.
use Prim.Native.Nat.{ℕ, zero, suc, ◌+◌, ◌-◌, ◌*◌, ◌/◌, ◌%◌, ◌^◌, ◌≤◌, ◌<◌, zero-le}
use mathlib.Core.Path.{◌≡◌, refl, sym, ◌∙◌, ap}
use mathlib.Core.Bool.{Bool, true, false, not, cond}
use mathlib.Core.Logic.{⊎_elim}
use native.Mathlib.Omega.{arith}
use native.Mathlib.Nat.{le_refl, div-one, div-eq_of_lt, lt_of_lt_of_le}
use native.Mathlib.Numerals.{add-one, one-add}
use lib.Dec.{eqb}
use lib.Pow.{pow_pos, pow_mono, shr-shr}
use lib.Count.{count_trailing_zeros}
use borrow.Author.Tests.{eq-eqb, ne_eqb, eqb-true, eqb-false, not-true, not-false}
use Rattle.theory.specs.Fold.{any_below, first_not}
use Rattle.theory.specs.Rounds.{mask_below}
use Rattle.theory.specs.Table.{bit}
use Rattle.theory.specs.Exact.{none, some, lowest_in}
use Rattle.theory.proofs.Fold.{bool, not_both, all_fails, First, first, first_unique, any_some, any_below_none}

-- bits, lowest first

pub bit_zero : (m : ℕ) → bit m 0 ≡ eqb (m % 2) 1
unfolding bit
bit_zero m = rw div-one

pub bit_suc : (m c : ℕ) → bit m (suc c) ≡ bit (m / 2) c
unfolding bit
bit_suc m c = rw (shr-shr m 1 c, one-add c)

pub bit_high : (m n c : ℕ) → m < 2 ^ n → n ≤ c → bit m c ≡ false
unfolding bit
bit_high m n c l h = rw (div-eq_of_lt (lt_of_lt_of_le l (pow_mono h)))

pub zero_bit : (c : ℕ) → bit 0 c ≡ false
zero_bit c = bit_high 0 0 c (omega arith) (omega arith)

-- a mask with a bit is not 0
pub bit_some : (m c : ℕ) → bit m c ≡ true → m ≡ 0 → ⊥
bit_some m c e z = not_both e (ap (λ x. bit x c) z ∙ zero_bit c)

pub low_true : (m : ℕ) → bit m 0 ≡ true → m % 2 ≡ 1
low_true m e = eqb-true (m % 2) 1 (sym (bit_zero m) ∙ e)

pub low_false : (m : ℕ) → bit m 0 ≡ false → m % 2 ≡ 0
low_false m e = omega (arith, eqb-false (m % 2) 1 (sym (bit_zero m) ∙ e))

same_low : (a b : ℕ) → bit a 0 ≡ bit b 0 → a % 2 ≡ b % 2
same_low a b e =
    ⊎_elim (λ t. low_true a (e ∙ t) ∙ sym (low_true b t)) (λ f. low_false a (e ∙ f) ∙ sym (low_false b f)) (bool (bit b 0))

-- masks with the same bits are equal
pub bits_ext : (n a b : ℕ) → a < 2 ^ n → b < 2 ^ n → ((c : ℕ) → c < n → bit a c ≡ bit b c) → a ≡ b
bits_ext zero a b h l f = omega arith
bits_ext (suc n) a b h l f =
    let rest : (c : ℕ) → c < n → bit (a / 2) c ≡ bit (b / 2) c = λ c k. sym (bit_suc a c) ∙ f (suc c) (omega arith) ∙ bit_suc b c in
    omega (arith, bits_ext n (a / 2) (b / 2) (omega arith) (omega arith) rest, same_low a b (f 0 (omega arith)))

-- one whose bits the other has too is not greater
pub bits_le : (n a b : ℕ) → a ≤ n → ((c : ℕ) → bit a c ≡ true → bit b c ≡ true) → a ≤ b
bits_le zero a b h f = omega arith
bits_le (suc n) a b h f =
    let rest = bits_le n (a / 2) (b / 2) (omega arith) (λ c e. sym (bit_suc b c) ∙ f (suc c) (bit_suc a c ∙ e)) in
    ⊎_elim
    (λ (e : bit a 0 ≡ true). omega (arith, rest, low_true b (f 0 e)))
    (λ (e : bit a 0 ≡ false). omega (arith, rest, low_false a e))
    (bool (bit a 0))

-- a mask that is not 0 has a bit
pub some_bit : (m n : ℕ) → m < 2 ^ n → (m ≡ 0 → ⊥) → (c : ℕ) × (c < n) × (bit m c ≡ true)
some_bit m n h z =
    ⊎_elim
    (λ (t : any_below (bit m) n ≡ true). any_some (bit m) n t)
    (λ (f : any_below (bit m) n ≡ false).
    absurd (z (bits_ext n m 0 h (pow_pos n) (λ c l. any_below_none (bit m) n f c l ∙ sym (zero_bit c)))))
    (bool (any_below (bit m) n))

-- a lowest bit b below the bits of x

pub front_bit : (b : Bool) (x : ℕ) → bit (cond b 1 0 + 2 * x) 0 ≡ b
front_bit true x = bit_zero (1 + 2 * x) ∙ eq-eqb ((1 + 2 * x) % 2) 1 (omega arith)
front_bit false x = bit_zero (0 + 2 * x) ∙ ne_eqb ((0 + 2 * x) % 2) 1 (omega arith)

front_half : (b : Bool) (x : ℕ) → (cond b 1 0 + 2 * x) / 2 ≡ x
front_half true x = omega arith
front_half false x = omega arith

pub next_bit : (b : Bool) (x c : ℕ) → bit (cond b 1 0 + 2 * x) (suc c) ≡ bit x c
next_bit b x c = rw (bit_suc, front_half)

-- the mask of a test

twice : (b : Bool) (n : ℕ) → cond b (2 ^ suc n) 0 ≡ 2 * cond b (2 ^ n) 0
twice true n = let q : 2 ^ suc n ≡ 2 * 2 ^ n = omega arith in q
twice false n = refl

-- built from the highest action down, each turn puts a new lowest bit
pub mask_front : (p : ℕ → Bool) (n : ℕ) → mask_below p (suc n) ≡ cond (p 0) 1 0 + 2 * mask_below (λ c. p (suc c)) n
unfolding mask_below
mask_front p zero = omega arith
mask_front p (suc n) = omega (arith, mask_front p n, twice (p (suc n)) n)

-- and built from the lowest up, as a loop does
module _ (p : ℕ → Bool) where
  pub mask_first : 0 ≡ mask_below p 0
  unfolding mask_below
  mask_first = refl

  pub mask_next : (c : ℕ) → mask_below p (c + 1) ≡ mask_below p c + cond (p c) (2 ^ c) 0
  unfolding mask_below
  mask_next c = rw (add-one c)

  pub mask_done : {c n m : ℕ} → c ≤ n → n ≤ c → m ≡ mask_below p c → m ≡ mask_below p n
  mask_done {c} {n} h g e = let q : c ≡ n = omega arith in rw q at e

pub cond_le : (b : Bool) (n : ℕ) → cond b n 0 ≤ n
cond_le true n = le_refl n
cond_le false n = zero-le

pub mask_lt : (p : ℕ → Bool) (n : ℕ) → mask_below p n < 2 ^ n
unfolding mask_below
mask_lt p zero = omega arith
mask_lt p (suc n) = omega (arith, mask_lt p n, cond_le (p n) (2 ^ n))

pub mask_bit : (p : ℕ → Bool) (n c : ℕ) → c < n → bit (mask_below p n) c ≡ p c
mask_bit p zero c h = absurd (omega arith)
mask_bit p (suc n) zero h = rw mask_front (front_bit (p 0) _)
mask_bit p (suc n) (suc c) h = rw (mask_front, next_bit) (mask_bit (λ k. p (suc k)) n c (omega arith))

pub mask_high : (p : ℕ → Bool) (n c : ℕ) → n ≤ c → bit (mask_below p n) c ≡ false
mask_high p n c h = bit_high (mask_below p n) n c (mask_lt p n) h

pub mask_same : (p q : ℕ → Bool) (n : ℕ) → ((c : ℕ) → c < n → p c ≡ q c) → mask_below p n ≡ mask_below q n
mask_same p q n f =
    bits_ext n _ _ (mask_lt p n) (mask_lt q n) (λ c h. mask_bit p n c h ∙ f c h ∙ sym (mask_bit q n c h))

-- the mask of all actions

full_mask : (n : ℕ) → mask_below (λ c. true) n ≡ 2 ^ n - 1
unfolding mask_below
full_mask zero = refl
full_mask (suc n) = let e = full_mask n in let p = pow_pos n in omega arith

pub full_bit : (n c : ℕ) → c < n → bit (2 ^ n - 1) c ≡ true
full_bit n c h = ap (λ (x : ℕ). bit x c) (sym (full_mask n)) ∙ mask_bit (λ d. true) n c h

pub mask_some : (p : ℕ → Bool) (n c : ℕ) → c < n → p c ≡ true → mask_below p n ≡ 0 → ⊥
mask_some p n c h e z = bit_some (mask_below p n) c (mask_bit p n c h ∙ e) z

-- c is the lowest of A actions that the mask m allows
pub record Lowest (A m c : ℕ) : Type 0 where
  pub action : c < A
  pub allowed : bit m c ≡ true
  pub least : (j : ℕ) → j < c → bit m j ≡ false

module _ (A m : ℕ) (small : m < 2 ^ A) (some : m ≡ 0 → ⊥) where
  lowest_first : First (λ c. not (bit m c)) A (first_not (λ c. not (bit m c)) A)
  lowest_first = let r = some_bit m A small some in first _ A (all_fails (λ c. not (bit m c)) r.0 A r.1 (ap not r.2))

  pub lowest : Lowest A m (first_not (λ c. not (bit m c)) A)
  lowest =
      let f = lowest_first in
      record { action = f.below; allowed = not-false _ f.fails; least = λ j h. not-true _ (f.before j h) }

pub lowest_acts : (A m : ℕ) → (m ≡ 0 → ⊥) → lowest_in A m ≡ some (first_not (λ c. not (bit m c)) A)
unfolding lowest_in
lowest_acts A m z = rw (ne_eqb m 0 z)

pub lowest_missing : (A m : ℕ) → m ≡ 0 → lowest_in A m ≡ none
unfolding lowest_in
lowest_missing A m z = rw (eq-eqb m 0 z)

-- code finds it by counting zeros from below

first_later : (k m t : ℕ) → bit m 0 ≡ false → First (λ c. not (bit (m / 2) c)) k t → First (λ c. not (bit m c)) (suc k) (suc t)
first_later k m t e r = record { below = omega arith; fails = rw bit_suc r.fails; before = before }
  where
    before : (j : ℕ) → j < suc t → not (bit m j) ≡ true
    before zero l = rw e
    before (suc j) l = rw bit_suc (r.before j (omega arith))

trailing_first : (k m : ℕ) → m < 2 ^ k → (m ≡ 0 → ⊥) → First (λ c. not (bit m c)) k (count_trailing_zeros k m)
unfolding count_trailing_zeros
trailing_first zero m h z = absurd (z (omega arith))
trailing_first (suc k) m h z =
    ⊎_elim
    (λ (e : bit m 0 ≡ true).
    rw (low_true m e) (record { below = omega arith; fails = rw e; before = λ j l. absurd (omega arith) }))
    (λ (e : bit m 0 ≡ false).
    let low = low_false m e in
    rw low (first_later k m _ e (trailing_first k (m / 2) (omega arith) (λ q. z (omega arith)))))
    (bool (bit m 0))

pub lowest_trailing : (width A m : ℕ) → A ≤ width → m < 2 ^ A → (m ≡ 0 → ⊥) → count_trailing_zeros width m ≡ first_not (λ c. not (bit m c)) A
lowest_trailing width A m l h z =
    first_unique _ (trailing_first width m (lt_of_lt_of_le h (pow_mono l)) z) (lowest_first A m h z)
