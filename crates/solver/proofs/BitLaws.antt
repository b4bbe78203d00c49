-- A bit that goes out of a mask. Assumes nothing.
use Prim.Native.Nat.{ℕ, zero, suc, ◌-◌, ◌/◌, ◌%◌, ◌^◌, ◌≤◌, ◌<◌}
use mathlib.Core.Path.{◌≡◌, refl, sym, ◌∙◌, ap}
use mathlib.Core.Bool.{true, false}
use mathlib.Core.List.{List}
use mathlib.Core.Logic.{⊎_elim}
use native.Mathlib.Omega.{arith}
use lib.Dec.{eqb}
use lib.ListN.{length, get_or, set, get_or-eq_default}
use borrow.Author.Tests.{ne_eqb}
use Rattle.theory.specs.Table.{bit}
use Rattle.theory.proofs.Fold.{not_both, below?, same?, stored}
use Rattle.theory.proofs.Masks.{bit_zero, bit_suc, low_true, zero_bit}

-- a bit that is set is part of the mask
pub bit_le : (m c : ℕ) → bit m c ≡ true → 2 ^ c ≤ m
bit_le m zero e = let l = low_true m e in let q : 2 ^ 0 ≡ 1 = refl in omega arith
bit_le m (suc c) e =
    let l = bit_le (m / 2) c (sym (bit_suc m c) ∙ e) in
    omega arith

half_less : (m c : ℕ) → (m - 2 ^ suc c) / 2 ≡ m / 2 - 2 ^ c
half_less m c = omega arith

-- it goes out
pub bit_out : (m c : ℕ) → bit m c ≡ true → bit (m - 2 ^ c) c ≡ false
bit_out m zero e =
    let l = low_true m e in
    let q : 2 ^ 0 ≡ 1 = refl in
    bit_zero (m - 2 ^ 0) ∙ ne_eqb ((m - 2 ^ 0) % 2) 1 (λ z. omega arith)
bit_out m (suc c) e =
    bit_suc (m - 2 ^ suc c) c
    ∙ ap (λ (x : ℕ). bit x c) (half_less m c)
    ∙ bit_out (m / 2) c (sym (bit_suc m c) ∙ e)

-- and no other does
pub bit_other : (m c d : ℕ) → bit m c ≡ true → (d ≡ c → ⊥) → bit (m - 2 ^ c) d ≡ bit m d
bit_other m zero zero e h = absurd (h refl)
bit_other m zero (suc d) e h =
    let l = low_true m e in
    let q : (m - 2 ^ 0) / 2 ≡ m / 2 = omega arith in
    bit_suc (m - 2 ^ 0) d ∙ ap (λ (x : ℕ). bit x d) q ∙ sym (bit_suc m d)
bit_other m (suc c) zero e h =
    let l = bit_le m (suc c) e in
    let q : (m - 2 ^ suc c) % 2 ≡ m % 2 = omega arith in
    bit_zero (m - 2 ^ suc c) ∙ ap (λ (x : ℕ). eqb x 1) q ∙ sym (bit_zero m)
bit_other m (suc c) (suc d) e h =
    bit_suc (m - 2 ^ suc c) d
    ∙ ap (λ (x : ℕ). bit x d) (half_less m c)
    ∙ bit_other (m / 2) c d (sym (bit_suc m c) ∙ e) (λ z. h (ap suc z))
    ∙ sym (bit_suc m d)

-- so what was out stays out
pub bit_still : (m c d : ℕ) → bit m c ≡ true → bit m d ≡ false → bit (m - 2 ^ c) d ≡ false
bit_still m c d e f = grind (arith, same? d c, bit_other m c d e)

pub some_mask : (m c : ℕ) → bit m c ≡ true → 0 < m
some_mask zero c e = absurd (not_both e (zero_bit c))
some_mask (suc m) c e = omega arith

-- an entry that is not 0 is there
pub there : (xs : List ℕ) (k : ℕ) → 0 < get_or xs k 0 → k < length xs
there xs k m =
    ⊎_elim
    (λ (h : k < length xs). h)
    (λ (h : length xs ≤ k). let z : get_or xs k 0 ≡ 0 = get_or-eq_default xs 0 h in absurd (omega arith))
    (below? k (length xs))

-- a store into a mask that lets bits out only
pub store_out : (masks : List ℕ) (k m : ℕ) → k < length masks → ((c : ℕ) → bit (get_or masks k 0) c ≡ false → bit m c ≡ false)
    → (j c : ℕ) → bit (get_or masks j 0) c ≡ false → bit (get_or (set masks k m) j 0) c ≡ false
store_out masks k m h less j c e = grind (arith, stored masks k m j h, less c)
