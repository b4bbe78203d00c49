-- Laws of specs/Numbers.antt: decimal numbers digit by digit, numbers of two bytes, and how long their texts are.
-- Assumes nothing.
use Prim.Native.Nat.{ℕ, zero, suc, ◌+◌, ◌*◌, ◌/◌, ◌%◌, ◌^◌, ◌≤◌, ◌<◌}
use mathlib.Core.Path.{◌≡◌, refl, sym, ap, ◌∙◌}
use mathlib.Core.Logic.{⊎_elim}
use mathlib.Core.List.{List, [], ◌∷◌, ◌++◌}
use native.Mathlib.Omega.{arith}
use native.Mathlib.Nat.{pow-suc}
use lib.ListN.{length, get_or, length-append}
use borrow.Author.Tests.{lt-ltb, le-ltb}
use Rattle.std.specs.Fmt.{decimal}
use Rattle.std.proofs.lemmas.Fmt.{decimal_by_steps}
use Rattle.theory.proofs.Fold.{below?}
use Rattle.text.specs.Numbers.{glyph, decimal_by, decimal_of, short_at, shorts_text}
use Rattle.theory.specs.Bytes.{bytes_of}
use Rattle.text.proofs.Page.{length_all}

-- decimal numbers

by_one : (fuel n : ℕ) → n < 10 → decimal_by (suc fuel) n ≡ glyph n ∷ []
unfolding decimal_by
by_one fuel n h = simp (lt-ltb n 10 h)

by_more : (fuel n : ℕ) → 10 ≤ n → decimal_by (suc fuel) n ≡ decimal_by fuel (n / 10) ++ (glyph (n % 10) ∷ [])
unfolding decimal_by
by_more fuel n h = simp (le-ltb n 10 h)

-- more fuel than n changes nothing
by_any : (f g n : ℕ) → n < f → n < g → decimal_by f n ≡ decimal_by g n
by_any zero g n h k = absurd (omega arith)
by_any (suc f) zero n h k = absurd (omega arith)
by_any (suc f) (suc g) n h k =
    ⊎_elim
    (λ (l : n < 10). by_one f n l ∙ sym (by_one g n l))
    (λ (m : 10 ≤ n).
    by_more f n m
    ∙ ap (λ t. t ++ (glyph (n % 10) ∷ [])) (by_any f g (n / 10) (omega arith) (omega arith))
    ∙ sym (by_more g n m))
    (below? n 10)

pub decimal_one : (n : ℕ) → n < 10 → decimal_of n ≡ glyph n ∷ []
unfolding decimal_of
decimal_one n h = by_one n n h

pub decimal_more : (n : ℕ) → 10 ≤ n → decimal_of n ≡ decimal_of (n / 10) ++ (glyph (n % 10) ∷ [])
unfolding decimal_of
decimal_more n h =
    by_more n n h
    ∙ ap (λ t. t ++ (glyph (n % 10) ∷ [])) (by_any n (suc (n / 10)) (n / 10) (omega arith) (omega arith))

-- the digits that the library prints

pub glyph_digit : (d : ℕ) → d < 10 → 48 + d ≡ glyph d
unfolding glyph
glyph_digit d h = simp (lt-ltb d 10 h)

pub decimal_is : (n : ℕ) → n < 2 ^ 64 → decimal n ≡ decimal_of n
decimal_is =
    decimal_by_steps (λ n ds. ds ≡ decimal_of n)
    (λ n h. ap (λ u. u ∷ []) (glyph_digit n h) ∙ sym (decimal_one n h))
    (λ n ds h e. rw (decimal_more n h, e, glyph_digit (n % 10) (omega arith)))

-- bytes

pub bytes_two : (n : ℕ) → bytes_of 2 n ≡ n % 256 ∷ n / 256 % 256 ∷ []
unfolding bytes_of
bytes_two n = refl

-- lengths

pub length_decimal : (n k : ℕ) → n < 10 ^ suc k → length (decimal_of n) ≤ suc k
length_decimal n zero h = rw (decimal_one n h) (omega arith)
length_decimal n (suc k) h =
    ⊎_elim
    (λ (l : n < 10). rw (decimal_one n l) (omega arith))
    (λ (m : 10 ≤ n).
    let e : n < 10 ^ suc k * 10 = rw (pow-suc 10 (suc k)) at h in
    let i : length (decimal_of (n / 10)) ≤ suc k = length_decimal (n / 10) k (omega arith) in
    rw (decimal_more n m, length-append) (omega arith))
    (below? n 10)

pub length_bytes : (w n : ℕ) → length (bytes_of w n) ≡ w
unfolding bytes_of
length_bytes zero n = refl
length_bytes (suc w) n = ap suc (length_bytes w (n / 256))

length_short : (xs : List ℕ) (k : ℕ) → length (short_at xs k) ≡ 2
unfolding short_at
length_short xs k = length_bytes 2 (get_or xs k 0)

pub length_shorts : (xs : List ℕ) → length (shorts_text xs) ≡ length xs * 2
unfolding shorts_text
length_shorts xs = length_all (short_at xs) 0 (length xs) 2 (length_short xs)
