-- The house form, as the code of src/form.rt finds it: each law's premises are the facts that the code leaves where it is used.
-- Rests on the laws of folds. Assumes nothing.
use Prim.Native.Nat.{ℕ, suc, ◌+◌, ◌-◌, ◌*◌, ◌/◌, ◌≤◌, ◌<◌}
use mathlib.Core.Path.{◌≡◌, refl, sym, ◌∙◌, ap}
use mathlib.Core.Bool.{true, false}
use mathlib.Core.List.{List}
use native.Mathlib.Omega.{arith}
use native.Mathlib.Numerals.{add-one}
use lib.Dec.{eqb}
use lib.ListN.{length, get_or, take, drop, get_or-eq_default}
use lib.Seq.{get_or-drop}
use borrow.Author.Rules.{rules}
use borrow.Author.Tests.{le-leb, lt-leb, eq-eqb, ne_eqb}
use Rattle.theory.specs.Fold.{all_below}
use Rattle.theory.proofs.Fold.{both_true, both_false, all_none, all_fails, all_again, both_none, both_second}
use Rattle.std.proofs.lemmas.List.{take_rest}
use Rattle.sheet.specs.Form.{entry_size, letter_of, offset_of, length_of, place_of, entry_ok, contents_ok, placed_at}
use Rattle.theory.specs.Bytes.{number_at}

-- bytes and two-byte numbers

pub word_none : (s : List ℕ) (at : ℕ) → length s ≤ at → 0 ≡ number_at 2 s at
unfolding number_at
word_none s at h =
    let later : length s ≤ suc at = omega arith in
    simp (get_or-eq_default s 0 h, get_or-eq_default s 0 later)

-- where the bodies begin, n of them

module _ (s : List ℕ) (n : ℕ) where
  pub place_first : 5 * n ≡ place_of 2 n s 0
  unfolding place_of entry_size
  place_first = refl

  pub place_again : (k at size : ℕ) → at ≡ place_of 2 n s k → size ≡ number_at 2 s (5 * k + 3) → at + size ≡ place_of 2 n s (k + 1)
  unfolding place_of length_of entry_size
  place_again k at size p q = rw (add-one k) (cc)

-- the contents; the premises of the laws are facts at entry k, where body k must begin at `at`

module _ (s letters : List ℕ) where
  pub contents_short : length s / 5 < length letters → false ≡ contents_ok 2 letters s
  unfolding contents_ok entry_size
  contents_short h =
      let more : length s < 5 * length letters = omega arith in
      sym (both_none _ _ (lt-leb (5 * length letters) (length s) more))

  entry_bad : (k : ℕ) → k < length letters → entry_ok 2 letters s k ≡ false → false ≡ contents_ok 2 letters s
  unfolding contents_ok
  entry_bad k h e = sym (both_false _ _ (both_none _ _ (all_fails (entry_ok 2 letters s) k (length letters) h e)))

  wrong_letter : (k : ℕ) → (get_or s (5 * k) 0 ≡ get_or letters k 0 → ⊥) → entry_ok 2 letters s k ≡ false
  unfolding entry_ok letter_of entry_size
  wrong_letter k e = both_none _ _ (ne_eqb _ _ e)

  wrong_offset : (k at offset : ℕ) → at ≡ place_of 2 (length letters) s k → offset ≡ number_at 2 s (5 * k + 1) → (offset ≡ at → ⊥)
      → entry_ok 2 letters s k ≡ false
  unfolding entry_ok offset_of entry_size
  wrong_offset k at offset p q e = both_false _ _ (ne_eqb _ _ (λ x. e (q ∙ x ∙ sym p)))

  pub letter_refused : (k : ℕ) → k < length letters → (get_or s (5 * k) 0 ≡ get_or letters k 0 → ⊥) → false ≡ contents_ok 2 letters s
  letter_refused k h e = entry_bad k h (wrong_letter k e)

  pub offset_refused : (k at offset : ℕ) → k < length letters → at ≡ place_of 2 (length letters) s k
      → offset ≡ number_at 2 s (5 * k + 1) → (offset ≡ at → ⊥) → false ≡ contents_ok 2 letters s
  offset_refused k at offset h p q e = entry_bad k h (wrong_offset k at offset p q e)

  right_entry : (k at offset : ℕ) → get_or s (5 * k) 0 ≡ get_or letters k 0 → at ≡ place_of 2 (length letters) s k
      → offset ≡ number_at 2 s (5 * k + 1) → offset ≡ at → entry_ok 2 letters s k ≡ true
  unfolding entry_ok letter_of offset_of entry_size
  right_entry k at offset l p q e = both_true _ _ (eq-eqb _ _ l) (eq-eqb _ _ (sym q ∙ e ∙ p))

  pub entries_again : (k at offset : ℕ) → all_below (entry_ok 2 letters s) k ≡ true → get_or s (5 * k) 0 ≡ get_or letters k 0
      → at ≡ place_of 2 (length letters) s k → offset ≡ number_at 2 s (5 * k + 1) → offset ≡ at
      → all_below (entry_ok 2 letters s) (k + 1) ≡ true
  entries_again k at offset a l p q e = all_again (entry_ok 2 letters s) k a refl (right_entry k at offset l p q e)

  -- every entry was right, and what is left to compare is the end
  pub contents_end : (k at : ℕ) → length letters ≤ length s / 5 → k ≤ length letters → length letters ≤ k
      → all_below (entry_ok 2 letters s) k ≡ true → at ≡ place_of 2 (length letters) s k → eqb at (length s) ≡ contents_ok 2 letters s
  unfolding contents_ok entry_size
  contents_end k at h l g a p =
      let room : 5 * length letters ≤ length s = omega arith in
      let done : k ≡ length letters = omega arith in
      sym
      (both_second _ _ (le-leb _ _ room)
      ∙ both_second _ _ (rw done at a)
      ∙ ap (λ (x : ℕ). eqb x (length s)) (rw done at (sym p)))

pub ruleset contents =
    (rules, all_none, contents_short, letter_refused, offset_refused, place_first, place_again, entries_again, contents_end)

-- places and parts

module _ (s : List ℕ) (k : ℕ) where
  pub unplaced : length s / 5 < k → record { at = 0; size = 0 } ≡ placed_at 2 s k
  unfolding placed_at offset_of length_of entry_size
  unplaced h =
      let off : length s ≤ 5 * k + 1 = omega arith in
      let len : length s ≤ 5 * k + 3 = omega arith in
      rw (← word_none s (5 * k + 1) off, ← word_none s (5 * k + 3) len)

  number_drop : (i : ℕ) → number_at 2 (drop (5 * k) s) i ≡ number_at 2 s (5 * k + i)
  unfolding number_at
  number_drop i =
      let next : 5 * k + suc i ≡ suc (5 * k + i) = omega arith in
      simp (get_or-drop, next)

  -- the entry is lent as the part of the sheet from 5k on
  pub placed_is : (at size : ℕ) → at ≡ number_at 2 (take (length s - 5 * k) (drop (5 * k) s)) 1
      → size ≡ number_at 2 (take (length s - 5 * k) (drop (5 * k) s)) 3 → record { at = at; size = size } ≡ placed_at 2 s k
  unfolding placed_at offset_of length_of entry_size
  placed_is at size p q = rw (p, q, take_rest s (5 * k), number_drop 1, number_drop 3)
