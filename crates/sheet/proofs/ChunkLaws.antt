-- The entries of a list that is read in arrays of n. Assumes nothing.
use Prim.Native.Nat.{ℕ, zero, suc, ◌+◌, ◌*◌, ◌<◌}
use mathlib.Core.Path.{◌≡◌, refl, ◌∙◌, ap}
use mathlib.Core.List.{List, []}
use native.Mathlib.Omega.{arith}
use native.Mathlib.Nat.{mul-zero, mul-suc}
use lib.ListN.{get_or, drop}
use lib.Seq.{get_or-drop, get_or-take}
use Rattle.std.specs.Simd.{first_chunks}

pub chunk_entry : (n m : ℕ) (xs : List ℕ) (i j p : ℕ) → i < m → j < n → p ≡ n * i + j → get_or (get_or (first_chunks n m xs) i []) j 0 ≡ get_or xs p 0
chunk_entry n zero xs i j p h l e = absurd (omega arith)
chunk_entry n (suc m) xs zero j p h l e =
    let here : j ≡ p = omega (arith, mul-zero n) in
    get_or-take n xs j 0 l ∙ ap (λ k. get_or xs k 0) here
chunk_entry n (suc m) xs (suc i) j p h l e =
    let next : n + (n * i + j) ≡ p = omega (arith, mul-suc n i) in
    chunk_entry n m (drop n xs) i j (n * i + j) (omega arith) l refl ∙ get_or-drop n xs (n * i + j) 0 ∙ ap (λ k. get_or xs k 0) next
