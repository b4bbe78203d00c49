-- The action of a turn, as the code of src/turn.rt finds it: the least first word, the pending word and its mask. Assumes nothing.
use Prim.Native.Nat.{ℕ, zero, suc, ◌+◌, ◌-◌, ◌*◌, ◌^◌, ◌≤◌, ◌<◌}
use mathlib.Core.Path.{◌≡◌, refl, sym, ◌∙◌, ap}
use mathlib.Core.Bool.{Bool, true, false, not, cond}
use mathlib.Core.List.{List, [], ◌∷◌, ◌++◌, map, reverse, reverse-append}
use denote.Bor.{Bor}
use mathlib.Core.Logic.{⊎_elim}
use native.Mathlib.Omega.{arith}
use native.Mathlib.Nat.{lt_of_lt_of_le, mul-le-mul, pow-zero, pow-suc, pow-le-pow_right, add-zero, mul-one, mul_assoc, add_assoc, add-mul}
use lib.Dec.{eqb, ltb}
use lib.ListN.{length, take, length-take}
use lib.Seq.{length-take-le}
use borrow.Author.Tests.{lt-ltb, le-ltb}
use Rattle.std.specs.Prelude.{Option, Some, None, unwrap_or, fold}
use Rattle.std.specs.List.{position_or_len}
use Rattle.std.proofs.lemmas.Grind.{common_steps, fold-append}
use Rattle.std.proofs.lemmas.List.{length-reverse}
use Rattle.std.proofs.lemmas.List.Sums.{fails_before_first, passes_at_first}
use Rattle.theory.specs.Fold.{first_not}
use Rattle.theory.specs.Table.{flagged}
use Rattle.theory.specs.Exact.{least_flagged}
use Rattle.theory.proofs.Fold.{below?, first, first_unique, all_below_lem, all_fails}
use Rattle.table.proofs.TableLaws.{words_of}
use Rattle.state.specs.State.{most_held}
use Rattle.controller.specs.Controller.{word_of}

-- the least first word

abbrev pub is_set : ℕ → Bool
is_set flag = not (eqb flag 0)

module _ (w : List ℕ) where
  abbrev place : ℕ
  place = position_or_len is_set w

  unset_before : (v : ℕ) → v < place → not (flagged (words_of w) v) ≡ true
  unfolding flagged
  unset_before v h = ap not (fails_before_first is_set w v 0 h)

  found_first : place < length w → place ≡ least_flagged (words_of w)
  unfolding least_flagged flagged
  found_first h =
      let fails : not (flagged (words_of w) place) ≡ false = ap not (passes_at_first is_set w 0 h) in
      first_unique (λ v. not (flagged (words_of w) v)) {n = length w} {m = length w}
      (record { below = h; fails = fails; before = unset_before })
      (first (λ v. not (flagged (words_of w) v)) (length w)
      (all_fails (λ v. not (flagged (words_of w) v)) place (length w) h fails))

  last_of : (n : ℕ) → n ≤ place → n - 1 ≡ first_not (λ v. not (flagged (words_of w) v)) n
  unfolding first_not
  last_of zero h = omega arith
  last_of (suc n) h =
      let z : suc n - 1 ≡ n = omega arith in
      rw (all_below_lem (λ v. not (flagged (words_of w) v)) n (λ v l. unset_before v (omega arith))) z

  -- the search's answer, or the last word where it has none
  pub least_is : (r : Option ℕ) → r ≡ cond (ltb place (length w)) (Some place) None → unwrap_or r (length w - 1) ≡ least_flagged (words_of w)
  unfolding least_flagged
  least_is r e =
      ⊎_elim
      (λ (h : place < length w). rw (e, lt-ltb place (length w) h) (found_first h))
      (λ (h : length w ≤ place). rw (e, le-ltb place (length w) h) (last_of (length w) h))
      (below? place (length w))

-- the node of position p and the pending word, whose actions come one after the other, the oldest first

module _ (A p : ℕ) where
  unfoldable pub node_along : List ℕ → ℕ
  node_along l = fold (λ u x. u * A + x) p l

  pub along_none : p ≡ node_along []
  unfolding node_along
  along_none = refl

  pub along_more : (l : List (Bor ℕ)) (x : Bor ℕ) → node_along (map (λ b. b.now) l) * A + x.now ≡ node_along (map (λ b. b.now) (l ++ x ∷ []))
  unfolding node_along
  along_more l x = grind (arith, common_steps)

  pub along_back : (l : List ℕ) → node_along (reverse l) ≡ p * A ^ length l + word_of A l
  unfolding node_along word_of
  along_back [] = sym (rw (pow-zero A) (add-zero (p * 1) ∙ mul-one p))
  along_back (x ∷ l) =
      let m = length l in
      let w = word_of A l in
      ap node_along (reverse-append (x ∷ []) l)
      ∙ fold-append (λ u x. u * A + x) p (reverse l) (x ∷ [])
      ∙ ap (λ u. u * A + x) (along_back l)
      ∙ ap (λ y. y + x) (add-mul (p * A ^ m) w A)
      ∙ add_assoc (p * A ^ m * A) (w * A) x
      ∙ ap (λ y. y + (w * A + x)) (mul_assoc p (A ^ m) A ∙ ap (λ y. p * y) (sym (pow-suc A m)))

  pub along_end : (n u : ℕ) (last items : List ℕ) → n ≤ length last → items ≡ reverse (take n last) → u ≡ node_along items
      → u ≡ p * A ^ n + word_of A (take n last)
  along_end n u last items h e is =
      is ∙ ap node_along e ∙ along_back (take n last) ∙ ap (λ m. p * A ^ m + word_of A (take n last)) (length-take-le n last h)

module _ (m u A x : ℕ) (l : u < 256 ^ (m + 1)) (s : A < 256) (t : x < 256) where
  pub along_small : u * A + x < 256 ^ (m + 1 + 1)
  along_small =
      let z : m + 1 + 1 ≡ suc (m + 1) = omega arith in
      let e : u * A ≤ (256 ^ (m + 1) - 1) * 255 = mul-le-mul (omega arith) (omega arith) in
      rw z (omega arith)

  -- one of the actions is still to come
  pub along_fits : (n : ℕ) (last : List ℕ) → n ≤ most_held → m < length (reverse (take n last)) → u * A + x < 256 ^ (most_held + 1)
  along_fits n last h few =
      let z : m + 1 + 1 ≤ most_held + 1 = omega (arith, length-reverse (take n last), length-take n last) in
      lt_of_lt_of_le along_small (pow-le-pow_right (omega arith) z)

pub ruleset node_laws = (along_none, along_more, along_small)
