-- Shared vocabulary of all crates: tests over the indices below a bound, and lists made from them.
-- Assumes nothing.
use Rattle.std.specs.Prelude.{ℕ, zero, suc, ◌+◌, Bool, true, false, cond, List, [], ◌∷◌, leb, Option, Some, None}

-- conjunction and disjunction of tests; shut, unlike the library's, so that their arguments can be inferred
unfoldable pub both : Bool → Bool → Bool
both true b = b
both false b = false

unfoldable pub either : Bool → Bool → Bool
either true b = true
either false b = b

-- p holds of every index below n
unfoldable pub all_below : (ℕ → Bool) → ℕ → Bool
all_below p zero = true
all_below p (suc n) = both (all_below p n) (p n)

-- p holds of some index below n
unfoldable pub any_below : (ℕ → Bool) → ℕ → Bool
any_below p zero = false
any_below p (suc n) = either (any_below p n) (p n)

-- the least index below n of which p does not hold, if there is one
unfoldable pub first_not : (ℕ → Bool) → ℕ → ℕ
first_not p zero = 0
first_not p (suc n) = cond (all_below p n) n (first_not p n)

-- the greatest index from i up to n, n left out, of which p holds, if there is one: W-203's "last line that meets the test's condition"
unfoldable pub last_with : (ℕ → Bool) → ℕ → ℕ → Option ℕ
last_with p i zero = None
last_with p i (suc n) = cond (both (leb i n) (p n)) (Some n) (last_with p i n)

-- how many indices below n pass a test
unfoldable pub count : (ℕ → Bool) → ℕ → ℕ
count p zero = 0
count p (suc n) = count p n + cond (p n) 1 0

-- p holds of some element
unfoldable pub any_of : {A : Type 0} → (A → Bool) → List A → Bool
any_of p [] = false
any_of p (x ∷ xs) = either (p x) (any_of p xs)

-- the list f i, f (i + 1), .. of n entries
unfoldable pub tabulate : {A : Type 0} → (ℕ → A) → ℕ → ℕ → List A
tabulate f i zero = []
tabulate f i (suc n) = f i ∷ tabulate f (suc i) n
