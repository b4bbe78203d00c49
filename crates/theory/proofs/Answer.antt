-- Laws of specs/Answer.antt: what an accepted chain of checks says. Assumes nothing.
use Prim.Native.Nat.{ℕ}
use mathlib.Core.Path.{◌≡◌, refl}
use mathlib.Core.Bool.{Bool, true, false}
use native.Mathlib.Omega.{arith}
use Rattle.theory.specs.Fold.{both}
use Rattle.theory.specs.Answer.{Answer, refused, accepted, check, on_accepted}

module _ {A : Type 0} where
  pub refused_not_accepted : {n : ℕ} {x : A} → refused n ≡ accepted x → ⊥
  refused_not_accepted e = let z : ◌≡◌ {A = ℕ} 0 1 = cc in omega arith

  pub accepted_same : {x y : A} → accepted x ≡ accepted y → x ≡ y
  accepted_same e = cc

  pub check_passed : (b : Bool) (n : ℕ) (rest : Answer A) → b ≡ true → check b n rest ≡ rest
  unfolding check
  check_passed b n rest e = rw e

  pub check_failed : (b : Bool) (n : ℕ) (rest : Answer A) → b ≡ false → check b n rest ≡ refused n
  unfolding check
  check_failed b n rest e = rw e

  -- an accepted check passed, and so did the rest
  pub check_accepted : (b : Bool) (n : ℕ) (rest : Answer A) {x : A} → check b n rest ≡ accepted x → (b ≡ true) × (rest ≡ accepted x)
  unfolding check
  check_accepted true n rest e = (refl, e)
  check_accepted false n rest e = absurd (refused_not_accepted e)

  -- two tests with one refusal
  pub check_both : (a b : Bool) (n : ℕ) (rest : Answer A) → check (both a b) n rest ≡ check a n (check b n rest)
  unfolding check both
  check_both true b n rest = refl
  check_both false b n rest = refl

module _ {A B : Type 0} where
  -- an accepted chain has accepted its first part
  pub accepted_on : (a : Answer A) (rest : A → Answer B) {y : B} → on_accepted a rest ≡ accepted y
      → (x : A) × (a ≡ accepted x) × (rest x ≡ accepted y)
  unfolding on_accepted
  accepted_on (refused n) rest e = absurd (refused_not_accepted e)
  accepted_on (accepted x) rest e = (x, refl, e)
