-- Products of the solver's numbers fit a word. Assumes nothing.
use Prim.Native.Nat.{ℕ, ◌+◌, ◌*◌, ◌≤◌}
use native.Mathlib.Omega.{arith}
use mir.Val.{Fits}
use mir.Syntax.{w64}
use native.Mathlib.Nat.{mul-le-mul}

-- far above every number of a level
abbrev pub most : ℕ
most = 16777216

-- a product, and a sum with one, fits a word
pub product_small : {a b : ℕ} → a ≤ most → b ≤ most → a * b ≤ most * most
product_small {a} {b} h k = mul-le-mul h k

pub product_fits : {a b : ℕ} → a ≤ most → b ≤ most → Fits w64 (a * b)
product_fits {a} {b} h k = record { fits = omega (arith, product_small h k) }

pub sum_fits : {a b c : ℕ} → a ≤ most → b ≤ most → c ≤ most → Fits w64 (a * b + c)
sum_fits {a} {b} {c} h k m = record { fits = omega (arith, product_small h k) }
