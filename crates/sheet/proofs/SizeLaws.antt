-- Powers that are cut off, as the code of src/size.rt finds them, and the sizes that they give; digits by division. Assumes nothing.
use Prim.Native.Nat.{ℕ, suc, ◌+◌, ◌*◌, ◌/◌, ◌^◌, ◌≤◌, ◌<◌}
use mathlib.Core.Path.{◌≡◌, refl, sym, ◌∙◌, ap}
use mathlib.Core.Logic.{⊎_elim}
use native.Mathlib.Omega.{arith}
use native.Mathlib.Nat.{le_trans, pow-le-pow_left, pow-zero, pow-suc, pow-le-pow_right, mul-le-mul, mul-zero}
use native.Mathlib.Nat.{div-one, div-zero, div-div-eq-div-mul, mod-zero}
use native.Mathlib.Numerals.{add-one}
use borrow.Author.Rules.{rules}
use borrow.Author.Tests.{le-leb, lt-leb}
use Rattle.theory.specs.Strategy.{initial_length}
use Rattle.theory.specs.Words.{digit}
use Rattle.theory.proofs.Fold.{below?}
use Rattle.theory.proofs.Words.{digit_is}
use Rattle.sheet.specs.Size.{nodes_of}
use Rattle.sheet.specs.code.Steps.{power_to, most_power}
use Rattle.sheet.specs.Limits.{most_positions, most_actions, most_delay, most_words}

module _ (b : ℕ) where
  pub power_first : 1 ≡ b ^ 0
  power_first = sym (pow-zero b)

  pub power_again : (i r w : ℕ) → r ≡ b ^ i → w ≡ b → r * w ≡ b ^ (i + 1)
  power_again i r w e f = rw (add-one i, pow-suc b i, e, f)

  power_cut : (e : ℕ) → most_power < b ^ e → most_power ≡ power_to b e
  unfolding power_to
  power_cut e h = rw (lt-leb (b ^ e) most_power h)

  base_some : (r w : ℕ) → w ≡ b → most_power < r * w → 0 < b
  base_some r w f h =
      ⊎_elim
      (λ (l : 0 < b). l)
      (λ (z : b ≤ 0). let none : w ≡ 0 = omega arith in absurd (omega (arith, rw (none, mul-zero r) at h)))
      (below? 0 b)

  -- once the product is too large, so is the power
  pub power_over : (e i r w : ℕ) → i < e → r ≡ b ^ i → w ≡ b → most_power < r * w → most_power ≡ power_to b e
  power_over e i r w l q f h =
      let next = rw (power_again i r w q f, add-one i) at h in
      let more : b ^ suc i ≤ b ^ e = pow-le-pow_right (base_some r w f h) (omega arith) in
      power_cut e (omega arith)

  pub power_is : (e i : ℕ) → i ≤ e → e ≤ i → b ^ i ≤ most_power → b ^ i ≡ power_to b e
  unfolding power_to
  power_is e i l g h =
      let done : i ≡ e = omega arith in
      rw (done, le-leb (b ^ e) most_power (rw done at h)) refl

pub ruleset powers = (rules, power_first, power_again, power_over, power_is)

-- three actions make a word at most
pub power_bound : (a n : ℕ) → a ≤ most_actions → n ≤ 3 → a ^ n ≤ most_words
power_bound a n h i = le_trans (pow-le-pow_left h n) (pow-le-pow_right (omega arith) i)

-- such a power is not cut off
pub small_power : (a n : ℕ) → a ^ n ≤ most_words → power_to a n ≡ a ^ n
unfolding power_to
small_power a n h = rw (le-leb (a ^ n) most_power (omega arith))

-- so the most actions and the longest delay give document 01's numbers; n nodes and w first words, as the code counts them

module _ (a d : ℕ) (few : a ≤ most_actions) (short : d ≤ most_delay) where
  pub nodes_small : (p n : ℕ) → n ≡ p * power_to a (d / 2) → n ≡ nodes_of p a d
  unfolding nodes_of
  nodes_small p n e = e ∙ ap (λ x. p * x) (small_power a (d / 2) (power_bound a (d / 2) few (omega arith)))

  pub nodes_few : (p n : ℕ) → p ≤ most_positions → n ≡ p * power_to a (d / 2) → n ≤ most_positions * most_words
  unfolding nodes_of
  nodes_few p n h e = rw (nodes_small p n e) (mul-le-mul h (power_bound a (d / 2) few (omega arith)))

  pub few_first_words : a ^ initial_length d ≤ most_words
  few_first_words = power_bound a (initial_length d) few (omega arith)

  pub words_small : (w : ℕ) → w ≡ power_to a (initial_length d) → w ≡ a ^ initial_length d
  words_small w e = e ∙ small_power a (initial_length d) few_first_words

pub ruleset small_sizes = (rules, nodes_small, nodes_few, words_small)

-- digits by division

pub divided_none : (n base : ℕ) → n / base ^ 0 ≡ n
divided_none n base = ap (λ j. n / j) (pow-zero base) ∙ div-one n

pub divided_again : (n base k : ℕ) → n / base ^ (k + 1) ≡ n / base ^ k / base
divided_again n base k = ap (λ j. n / base ^ j) (add-one k) ∙ ap (λ j. n / j) (pow-suc base k) ∙ sym (div-div-eq-div-mul n (base ^ k) base)

pub ruleset divisions = (rules, divided_none, divided_again, div-zero)

pub no_digit : (base n word i : ℕ) → n ≡ 0 → 0 ≡ digit base n word i
unfolding digit
no_digit base n word i e = rw e refl

pub ruleset digits = (rules, no_digit, digit_is, mod-zero)
