-- A sheet written in the house form reads back: its contents are right, and every body is the one written. For any width, any
-- number of parts, and a sheet whose length fits the width. Assumes nothing.
use Prim.Native.Nat.{ℕ, zero, suc, ◌+◌, ◌*◌, ◌/◌, ◌%◌, ◌^◌, ◌≤◌, ◌<◌}
use mathlib.Core.Path.{◌≡◌, refl, sym, ap, ◌∙◌}
use mathlib.Core.Bool.{true}
use mathlib.Core.List.{List, [], ◌∷◌, ◌++◌, map, append_assoc}
use native.Mathlib.Omega.{arith}
use native.Mathlib.Nat.{pow-suc, pow-zero, mod-add-div, mul-suc, mul-zero}
use lib.ListN.{length, get_or, take, drop, length-append, length-map, get_or-map}
use lib.Seq.{get_or_at, drop_at, take-append_seam}
use borrow.Author.Tests.{eq-eqb, le-leb}
use Rattle.theory.proofs.Fold.{both_true, all_below_lem}
use Rattle.sheet.specs.Form.{entry_size, letter_of, offset_of, length_of, place_of, entry_ok, contents_ok, placed_at, part_at, body_of, Part, part, entry_of, entries_from, bodies, sheet_of}
use Rattle.theory.specs.Bytes.{number_at, bytes_of}
use Rattle.text.proofs.Numbers.{length_bytes}

-- a list has the middle at place n

pub record Cut (l middle : List ℕ) (n : ℕ) : Type 0 where
  pub front : List ℕ
  pub rest : List ℕ
  pub is : l ≡ front ++ (middle ++ rest)
  pub at : length front ≡ n

cut_byte : (l m : List ℕ) (b n : ℕ) → Cut l (b ∷ m) n → get_or l n 0 ≡ b
cut_byte l m b n c = ap (λ x. get_or x n 0) c.is ∙ get_or_at c.front b (m ++ c.rest) 0 n c.at

cut_right : (l m m' : List ℕ) (n : ℕ) → Cut l (m ++ m') n → Cut l m' (n + length m)
cut_right l m m' n c =
    record {
      front = c.front ++ m;
      rest = c.rest;
      is = c.is ∙ simp append_assoc;
      at = length-append c.front m ∙ ap (λ k. k + length m) c.at;
    }

cut_left : (l m m' : List ℕ) (n : ℕ) → Cut l (m ++ m') n → Cut l m n
cut_left l m m' n c = record { front = c.front; rest = m' ++ c.rest; is = c.is ∙ simp append_assoc; at = c.at }

cut_tail : (l m : List ℕ) (b n : ℕ) → Cut l (b ∷ m) n → Cut l m (suc n)
cut_tail l m b n c = let e : n + 1 ≡ suc n = omega arith in rw e at (cut_right l (b ∷ []) m n c)

cut_more : (l r m : List ℕ) (n : ℕ) → Cut l m n → Cut (l ++ r) m n
cut_more l r m n c =
    record { front = c.front; rest = c.rest ++ r; is = ap (λ x. x ++ r) c.is ∙ simp append_assoc; at = c.at }

cut_after : (f l m : List ℕ) (n j : ℕ) → length f ≡ j → Cut l m n → Cut (f ++ l) m (j + n)
cut_after f l m n j e c =
    record {
      front = f ++ c.front;
      rest = c.rest;
      is = ap (λ x. f ++ x) c.is ∙ simp append_assoc;
      at = length-append f c.front ∙ ap (λ k. length f + k) c.at ∙ ap (λ k. k + n) e;
    }

cut_begin : (m r : List ℕ) → Cut (m ++ r) m 0
cut_begin m r = record { front = []; rest = r; is = refl; at = refl }

cut_part : (l m : List ℕ) (n : ℕ) → Cut l m n → take (length m) (drop n l) ≡ m
cut_part l m n c =
    ap (λ x. take (length m) (drop n x)) c.is
    ∙ ap (take (length m)) (drop_at c.front (m ++ c.rest) n c.at)
    ∙ take-append_seam m c.rest

-- a number's bytes read as the number

number_cut : (w n : ℕ) (l : List ℕ) (i : ℕ) → n < 256 ^ w → Cut l (bytes_of w n) i → number_at w l i ≡ n
unfolding number_at bytes_of
number_cut zero n l i h c = let e : n < 1 = rw pow-zero at h in omega arith
number_cut (suc w) n l i h c =
    let e : n < 256 ^ w * 256 = rw (pow-suc 256 w) at h in
    let low : get_or l i 0 ≡ n % 256 = cut_byte l (bytes_of w (n / 256)) (n % 256) i c in
    let high : number_at w l (suc i) ≡ n / 256 = number_cut w (n / 256) l (suc i) (omega arith) (cut_tail l (bytes_of w (n / 256)) (n % 256) i c) in
    rw (low, high) (mod-add-div n 256)

-- the bytes of the bodies before body k

unfoldable pub before : List Part → ℕ → ℕ
before [] k = 0
before (x ∷ parts) zero = 0
before (x ∷ parts) (suc k) = length x.body + before parts k

abbrev pub part_of : List Part → ℕ → Part
part_of parts k = get_or parts k (part 0 [])

abbrev pub letters_of : List Part → List ℕ
letters_of parts = map (λ x. x.letter) parts

before_next : (parts : List Part) (k : ℕ) → before parts (suc k) ≡ before parts k + length (part_of parts k).body
unfolding before
before_next [] k = refl
before_next (x ∷ []) zero = omega arith
before_next (x ∷ y ∷ parts) zero = omega arith
before_next (x ∷ parts) (suc k) = omega (arith, before_next parts k)

before_none : (parts : List Part) → before parts 0 ≡ 0
unfolding before
before_none [] = refl
before_none (x ∷ parts) = refl

before_most : (parts : List Part) (k : ℕ) → before parts k ≤ before parts (length parts)
unfolding before
before_most [] k = omega arith
before_most (x ∷ parts) zero = omega arith
before_most (x ∷ parts) (suc k) = omega (arith, before_most parts k)

length_bodies : (parts : List Part) → length (bodies parts) ≡ before parts (length parts)
unfolding bodies before
length_bodies [] = refl
length_bodies (x ∷ parts) = length-append x.body (bodies parts) ∙ ap (λ n. length x.body + n) (length_bodies parts)

body_cut : (parts : List Part) (k : ℕ) → k < length parts → Cut (bodies parts) (part_of parts k).body (before parts k)
unfolding bodies before
body_cut [] k h = absurd (omega arith)
body_cut (x ∷ parts) zero h = cut_begin x.body (bodies parts)
body_cut (x ∷ parts) (suc k) h =
    cut_after x.body (bodies parts) (part_of parts k).body (before parts k) (length x.body) refl (body_cut parts k (omega arith))

module _ (w : ℕ) where
  length_entry : (at : ℕ) (x : Part) → length (entry_of w at x) ≡ entry_size w
  unfolding entry_of entry_size
  length_entry at x = simp (length-append, length_bytes) (omega arith)

  length_entries : (parts : List Part) (at : ℕ) → length (entries_from w at parts) ≡ entry_size w * length parts
  unfolding entries_from
  length_entries [] at = sym (mul-zero (entry_size w))
  length_entries (x ∷ parts) at =
      length-append (entry_of w at x) (entries_from w (at + length x.body) parts)
      ∙ ap (λ n. n + length (entries_from w (at + length x.body) parts)) (length_entry at x)
      ∙ ap (λ n. entry_size w + n) (length_entries parts (at + length x.body))
      ∙ rw (mul-suc (entry_size w) (length parts)) (omega arith)

  -- entry k stands at its place, and has the place of body k
  entry_cut : (parts : List Part) (at k : ℕ) → k < length parts
      → Cut (entries_from w at parts) (entry_of w (at + before parts k) (part_of parts k)) (entry_size w * k)
  unfolding entries_from before
  entry_cut [] at k h = absurd (omega arith)
  entry_cut (x ∷ parts) at zero h =
      let e : at + 0 ≡ at = omega arith in
      rw (e, mul-zero (entry_size w)) (cut_begin (entry_of w at x) (entries_from w (at + length x.body) parts))
  entry_cut (x ∷ parts) at (suc k) h =
      let e : at + (length x.body + before parts k) ≡ at + length x.body + before parts k = omega arith in
      let f : entry_size w * suc k ≡ entry_size w + entry_size w * k = rw (mul-suc (entry_size w) k) (omega arith) in
      rw (e, f)
      (cut_after (entry_of w at x) (entries_from w (at + length x.body) parts) _ (entry_size w * k) (entry_size w) (length_entry at x)
      (entry_cut parts (at + length x.body) k (omega arith)))

module _ (w : ℕ) (parts : List Part) where
  pub length_sheet : length (sheet_of w parts) ≡ entry_size w * length parts + before parts (length parts)
  unfolding sheet_of
  length_sheet =
      length-append (entries_from w (entry_size w * length parts) parts) (bodies parts)
      ∙ ap (λ n. n + length (bodies parts)) (length_entries w parts (entry_size w * length parts))
      ∙ ap (λ n. entry_size w * length parts + n) (length_bodies parts)

  module _ (fits : entry_size w * length parts + before parts (length parts) < 256 ^ w) where
    entry_at : (k : ℕ) → k < length parts
        → Cut (sheet_of w parts) (entry_of w (entry_size w * length parts + before parts k) (part_of parts k)) (entry_size w * k)
    unfolding sheet_of
    entry_at k h = cut_more (entries_from w (entry_size w * length parts) parts) (bodies parts) _ _ (entry_cut w parts (entry_size w * length parts) k h)

    body_at : (k : ℕ) → k < length parts → Cut (sheet_of w parts) (part_of parts k).body (entry_size w * length parts + before parts k)
    unfolding sheet_of
    body_at k h =
        cut_after (entries_from w (entry_size w * length parts) parts) (bodies parts) _ _ (entry_size w * length parts)
        (length_entries w parts (entry_size w * length parts)) (body_cut parts k h)

    letter_is : (k : ℕ) → k < length parts → letter_of w (sheet_of w parts) k ≡ (part_of parts k).letter
    unfolding letter_of entry_of
    letter_is k h = cut_byte _ _ _ _ (entry_at k h)

    numbers_at : (k : ℕ) → k < length parts
        → Cut (sheet_of w parts) (bytes_of w (entry_size w * length parts + before parts k) ++ bytes_of w (length (part_of parts k).body)) (entry_size w * k + 1)
    unfolding entry_of
    numbers_at k h = cut_right _ ((part_of parts k).letter ∷ []) _ _ (entry_at k h)

    offset_is : (k : ℕ) → k < length parts → offset_of w (sheet_of w parts) k ≡ entry_size w * length parts + before parts k
    unfolding offset_of
    offset_is k h =
        number_cut w (entry_size w * length parts + before parts k) _ _ (omega (arith, before_most parts k))
        (cut_left _ _ _ _ (numbers_at k h))

    length_is : (k : ℕ) → k < length parts → length_of w (sheet_of w parts) k ≡ length (part_of parts k).body
    unfolding length_of
    length_is k h =
        let at = entry_size w * length parts + before parts k in
        let e : entry_size w * k + 1 + length (bytes_of w at) ≡ entry_size w * k + (1 + w) = rw (length_bytes w at) (omega arith) in
        number_cut w (length (part_of parts k).body) _ _ (omega (arith, before_most parts (suc k), before_next parts k))
        (rw e at (cut_right _ (bytes_of w at) _ _ (numbers_at k h)))

    place_is : (k : ℕ) → k ≤ length parts → place_of w (length parts) (sheet_of w parts) k ≡ entry_size w * length parts + before parts k
    unfolding place_of
    place_is zero h = rw (before_none parts) (omega arith)
    place_is (suc k) h = omega (arith, place_is k (omega arith), length_is k h, before_next parts k)

    -- every body reads back
    pub body_is : (k : ℕ) → k < length parts → body_of w (sheet_of w parts) k ≡ (part_of parts k).body
    unfolding body_of part_at placed_at
    body_is k h = rw (length_is k h, offset_is k h) (cut_part _ _ _ (body_at k h))

    entry_ok_lem : (k : ℕ) → k < length parts → entry_ok w (letters_of parts) (sheet_of w parts) k ≡ true
    unfolding entry_ok
    entry_ok_lem k h =
        both_true _ _
        (eq-eqb _ _ (letter_is k h ∙ sym (get_or-map (λ x. x.letter) parts k (part 0 []))))
        (eq-eqb _ _ (offset_is k h ∙ sym (rw (length-map parts (λ x. x.letter)) (place_is k (omega arith)))))

    room : entry_size w * length parts ≤ length (sheet_of w parts)
    room = rw length_sheet (omega arith)

    -- and the contents are right
    pub contents_ok_lem : contents_ok w (letters_of parts) (sheet_of w parts) ≡ true
    unfolding contents_ok
    contents_ok_lem =
        rw (length-map parts (λ x. x.letter))
        (both_true _ _ (le-leb _ _ room)
        (both_true _ _ (all_below_lem _ _ entry_ok_lem) (eq-eqb _ _ (place_is (length parts) (omega arith) ∙ sym length_sheet))))
