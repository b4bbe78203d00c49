-- Laws of specs/Fields.antt: how a word stands in its node's number, and how long the fields are. Assumes nothing.
use Prim.Native.Nat.{ℕ, zero, suc, ◌+◌, ◌*◌, ◌/◌, ◌%◌, ◌^◌, ◌≤◌, ◌<◌}
use mathlib.Core.Path.{◌≡◌, refl, sym, ap, ◌∙◌}
use mathlib.Core.Bool.{true, false, cond}
use mathlib.Core.Logic.{⊎_elim}
use mathlib.Core.List.{List, [], ◌∷◌}
use native.Mathlib.Omega.{arith}
use native.Mathlib.Nat.{pow-suc, one-le-pow, mul-zero, mul-pos, mul_assoc}
use native.Mathlib.Nat.{div-zero, div-add-mod', div-lt_iff_lt-mul, mul-add-div_right}
use native.Mathlib.Nat.{mod-zero, zero-mod, mod-lt, mod-eq_of_lt, mod-mod_of_dvd, mul-add-mod_self_right, dvd-mul_left}
use lib.Dec.{eqb, eqb-suc-zero}
use lib.ListN.{length, length-append}
use Rattle.theory.proofs.Fold.{below?, bool}
use Rattle.theory.specs.Words.{digit}
use Rattle.theory.proofs.Words.{digit_shorter, digit_newest}
use Rattle.theory.specs.Table.{bit}
use Rattle.text.specs.Ascii.{ascii}
use Rattle.text.specs.Page.{texts_from}
use Rattle.text.specs.Numbers.{glyph, decimal_of}
use Rattle.text.specs.Fields.{digit_text, word_text, action_text, set_text, field_text, position_text, node_text}
use Rattle.text.proofs.Page.{writing, texts_same, length_texts}
use Rattle.text.proofs.Numbers.{decimal_is, length_decimal}

-- the last digits of a number are those of its remainder

mod_div : (v p a : ℕ) → 0 < p → v % (p * a) / a ≡ v / a % p
mod_div v p a h =
    ⊎_elim
    (λ (g : 0 < a).
    let r = v % (p * a) in
    let q = v / (p * a) in
    let s : r / a < p = (div-lt_iff_lt-mul g).1 (mod-lt v (mul-pos h g)) in
    let e : v ≡ q * p * a + r = sym (div-add-mod' v (p * a)) ∙ ap (λ x. x + r) (sym (mul_assoc q p a)) in
    sym
    (ap (λ x. x / a % p) e
    ∙ ap (λ x. x % p) (mul-add-div_right g (q * p) r)
    ∙ mul-add-mod_self_right q p (r / a)
    ∙ mod-eq_of_lt s))
    (λ (g : a ≤ 0).
    let e : a ≡ 0 = omega arith in
    rw e (div-zero (v % (p * 0)) ∙ sym (ap (λ x. x % p) (div-zero v) ∙ zero-mod p)))
    (below? 0 a)

digit_mod : (a n v i : ℕ) → 0 < a → digit a n (v % a ^ n) i ≡ digit a n v i
unfolding digit
digit_mod a zero v i h = refl
digit_mod a (suc n) v i h =
    ⊎_elim
    (λ (l : i < n).
    digit_shorter a n (v % a ^ suc n) i l
    ∙ ap (λ x. digit a n (v % x / a) i) (pow-suc a n)
    ∙ ap (λ x. digit a n x i) (mod_div v (a ^ n) a (one-le-pow n a h))
    ∙ digit_mod a n (v / a) i h
    ∙ sym (digit_shorter a n v i l))
    (λ (g : n ≤ i).
    digit_newest a n (v % a ^ suc n) i g
    ∙ ap (λ x. v % x % a) (pow-suc a n)
    ∙ mod-mod_of_dvd a v (dvd-mul_left a (a ^ n))
    ∙ sym (digit_newest a n v i g))
    (below? i n)

-- without actions there is nothing to divide by
digit_none : (n v i : ℕ) → digit 0 n (v % 0 ^ n) i ≡ digit 0 n v i
unfolding digit
digit_none zero v i = refl
digit_none (suc n) v i = ap (λ x. digit 0 (suc n) x i) (ap (λ x. v % x) (pow-suc 0 n ∙ mul-zero (0 ^ n)) ∙ mod-zero v)

last_digit : (a n v i : ℕ) → digit a n (v % a ^ n) i ≡ digit a n v i
last_digit zero n v i = digit_none n v i
last_digit (suc a) n v i = digit_mod (suc a) n v i (omega arith)

digit_last : (a l v i : ℕ) → digit_text a l (v % a ^ l) i ≡ digit_text a l v i
unfolding digit_text
digit_last a l v i = ap (λ d. glyph d ∷ []) (last_digit a l v i)

pub word_last : (a l v : ℕ) → word_text a l (v % a ^ l) ≡ word_text a l v
unfolding word_text
word_last a l v = ap (cond (eqb l 0) (ascii "-")) (texts_same _ _ 0 l (λ i. digit_last a l v i))

-- as the code asks them
pub ruleset field_laws = (writing, decimal_is, word_last)

-- lengths

length_digit : (a l v i : ℕ) → length (digit_text a l v i) ≤ 1
unfolding digit_text
length_digit a l v i = omega arith

word_some : (a l v : ℕ) → word_text a (suc l) v ≡ texts_from (digit_text a (suc l) v) 0 (suc l)
unfolding word_text
word_some a l v = simp (eqb-suc-zero l)

pub length_word : (a l v n : ℕ) → 1 ≤ n → l ≤ n → length (word_text a l v) ≤ n
unfolding word_text
length_word a zero v n h g = h
length_word a (suc l) v n h g =
    let k : length (texts_from (digit_text a (suc l) v) 0 (suc l)) ≤ suc l * 1 = length_texts (digit_text a (suc l) v) 0 (suc l) 1 (λ i x y. length_digit a (suc l) v i) in
    rw (word_some a l v) (omega arith)

length_action : (m c : ℕ) → length (action_text m c) ≤ 1
unfolding action_text
length_action m c = ⊎_elim (λ (t : bit m c ≡ true). simp t (omega arith)) (λ (f : bit m c ≡ false). simp f (omega arith)) (bool (bit m c))

pub length_actions : (a m : ℕ) → length (set_text a m) ≤ a
unfolding set_text
length_actions a m =
    let k : length (texts_from (action_text m) 0 a) ≤ a * 1 = length_texts (action_text m) 0 a 1 (λ i x y. length_action m i) in
    omega arith

pub length_field : (name : List ℕ) (n k : ℕ) → n < 10 ^ suc k → length (field_text name n) ≤ length name + suc k
unfolding field_text
length_field name n k h = let e : length (decimal_of n) ≤ suc k = length_decimal n k h in rw length-append (omega arith)

-- a position of d + 1 digits and a word of at most w actions
pub length_node : (a l k d w : ℕ) → k / a ^ l < 10 ^ suc d → 1 ≤ w → l ≤ w → length (node_text a l k) ≤ 7 + d + w
unfolding node_text position_text
length_node a l k d w h g i =
    let x : length (field_text (ascii "pair ") (k / a ^ l)) ≤ 5 + suc d = length_field (ascii "pair ") (k / a ^ l) d h in
    let y : length (word_text a l (k % a ^ l)) ≤ w = length_word a l (k % a ^ l) w g i in
    simp length-append (omega arith)
