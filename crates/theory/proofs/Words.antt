-- Laws of words (specs/Words.antt), for every number A of actions and every length. Assumes nothing.
use Prim.Native.Nat.{ℕ, zero, suc, ◌+◌, ◌-◌, ◌*◌, ◌/◌, ◌%◌, ◌^◌, ◌≤◌, ◌<◌}
use mathlib.Core.Path.{◌≡◌, refl, sym, ◌∙◌, ap}
use mathlib.Core.Logic.{⊎_elim}
use native.Mathlib.Omega.{arith}
use native.Mathlib.Nat.{pow-suc, pow-succ', pow-zero, zero-mul, mod-lt, div-one, div-add-mod', div-lt_iff_lt-mul, div-div-eq-div-mul}
use lib.Arith.{digits_lt, digits_div, digits_mod}
use borrow.Author.Tests.{lt-ltb, le-ltb}
use Rattle.theory.specs.Words.{encode, digit}
use Rattle.theory.proofs.Fold.{below?}

pub encode_suc : (A : ℕ) (g : ℕ → ℕ) (n : ℕ) → encode A g (suc n) ≡ encode A g n * A + g n
unfolding encode
encode_suc A g n = refl

pub encode_zero : (A : ℕ) (g : ℕ → ℕ) → encode A g 0 ≡ 0
unfolding encode
encode_zero A g = refl

pub encode_same : (A : ℕ) (g h : ℕ → ℕ) (n : ℕ) → ((i : ℕ) → i < n → g i ≡ h i) → encode A g n ≡ encode A h n
encode_same A g h zero e = encode_zero A g ∙ sym (encode_zero A h)
encode_same A g h (suc n) e =
    rw (encode_suc A g n, encode_suc A h n, encode_same A g h n (λ i l. e i (omega arith)), e n (omega arith))

-- a word of n actions is below A ^ n
pub encode_lt : (A : ℕ) (g : ℕ → ℕ) (n : ℕ) → ((i : ℕ) → i < n → g i < A) → encode A g n < A ^ n
encode_lt A g zero l = rw (encode_zero A g, pow-zero A) (omega arith)
encode_lt A g (suc n) l =
    rw (encode_suc A g n, pow-suc A n) (digits_lt (encode_lt A g n (λ i h. l i (omega arith))) (l n (omega arith)))

-- the oldest action leads
pub encode_front : (A : ℕ) (g : ℕ → ℕ) (n : ℕ) → encode A g (suc n) ≡ g 0 * A ^ n + encode A (λ i. g (suc i)) n
encode_front A g zero =
    rw (encode_suc A g 0, encode_zero A g, encode_zero A (λ i. g (suc i)), pow-zero A, zero-mul A) (omega arith)
encode_front A g (suc n) =
    rw (encode_suc A g (suc n), encode_front A g n, encode_suc A (λ i. g (suc i)) n, pow-suc A n) (omega arith)

module _ (A : ℕ) (g : ℕ → ℕ) (n : ℕ) (l : (i : ℕ) → i < suc n → g i < A) where
  younger_lt : encode A (λ i. g (suc i)) n < A ^ n
  younger_lt = encode_lt A (λ i. g (suc i)) n (λ i h. l (suc i) (omega arith))

  -- of a joined word the quotient is the oldest action, the remainder the word without it
  pub oldest : encode A g (suc n) / A ^ n ≡ g 0
  oldest = ap (λ x. x / A ^ n) (encode_front A g n) ∙ digits_div (g 0) younger_lt

  pub younger : encode A g (suc n) % A ^ n ≡ encode A (λ i. g (suc i)) n
  younger = ap (λ x. x % A ^ n) (encode_front A g n) ∙ digits_mod (g 0) younger_lt

pub digit_newest : (A n v i : ℕ) → n ≤ i → digit A (suc n) v i ≡ v % A
unfolding digit
digit_newest A n v i h = rw (le-ltb i n h)

pub digit_last : (A n v : ℕ) → digit A (suc n) v n ≡ v % A
digit_last A n v = digit_newest A n v n (omega arith)

-- the word without its newest action has the same actions
pub digit_shorter : (A n v i : ℕ) → i < n → digit A (suc n) v i ≡ digit A n (v / A) i
unfolding digit
digit_shorter A n v i h = rw (lt-ltb i n h)

-- an action by division: the younger ones are divided away
pub digit_is : (A n v i : ℕ) → 0 < n → digit A n v i ≡ v / A ^ (n - 1 - i) % A
digit_is A zero v i h = absurd (omega arith)
digit_is A (suc n) v i h =
    ⊎_elim
    (λ (l : i < n).
    let e : suc (n - 1 - i) ≡ suc n - 1 - i = omega arith in
    digit_shorter A n v i l
    ∙ digit_is A n (v / A) i (omega arith)
    ∙ ap (λ x. x % A) (div-div-eq-div-mul v A (A ^ (n - 1 - i)))
    ∙ ap (λ x. v / x % A) (sym (pow-succ' A (n - 1 - i)))
    ∙ ap (λ x. v / A ^ x % A) e)
    (λ (g : n ≤ i).
    let e : 0 ≡ suc n - 1 - i = omega arith in
    digit_newest A n v i g
    ∙ ap (λ x. x % A) (sym (div-one v))
    ∙ ap (λ x. v / x % A) (sym (pow-zero A))
    ∙ ap (λ x. v / A ^ x % A) e)
    (below? i n)

pub digit_lt : (A n v i : ℕ) → 0 < A → digit A n v i < A
unfolding digit
digit_lt A zero v i a = a
digit_lt A (suc n) v i a =
    ⊎_elim
    (λ (h : i < n). rw (lt-ltb i n h) (digit_lt A n (v / A) i a))
    (λ (h : n ≤ i). rw (le-ltb i n h) (mod-lt v a))
    (below? i n)

-- a word is coded by its own actions
pub encode_digit : (A n v : ℕ) → 0 < A → v < A ^ n → encode A (digit A n v) n ≡ v
encode_digit A zero v a l =
    let o : v < 1 = rw (pow-zero A) at l in
    rw (encode_zero A (digit A 0 v)) (omega arith)
encode_digit A (suc n) v a l =
    let b : v < A ^ n * A = rw (pow-suc A n) at l in
    rw (
      encode_suc A (digit A (suc n) v) n,
      encode_same A (digit A (suc n) v) (digit A n (v / A)) n (digit_shorter A n v),
      encode_digit A n (v / A) a ((div-lt_iff_lt-mul a).1 b),
      digit_newest A n v n (omega arith),
    )
    (div-add-mod' v A)
