-- A test of the first n entries of an array, as the code of src/checks.rt writes it; n may be over the array's length. Assumes nothing.
use Prim.Native.Nat.{ℕ, ◌≤◌, ◌<◌}
use mathlib.Core.Path.{◌≡◌, ◌∙◌, ap}
use mathlib.Core.Bool.{Bool, true}
use mathlib.Core.List.{List}
use mathlib.Core.Logic.{⊎_elim}
use native.Mathlib.Omega.{arith}
use denote.Param.Members.{Mut}
use denote.Ref.{Bor}
use lib.ListN.{length, get_or, take}
use lib.Seq.{get_or-take}
use Rattle.std.proofs.Common.{Iter, length-take}
use Rattle.std.specs.declared.iter.Take.{Take}
use Rattle.std.specs.Fn.{Called}
use Rattle.std.specs.Iterator.Adapters.{take_source, take_count, take_steps}
use Rattle.std.specs.Slice.Iter.{iter_rest}
use Rattle.std.proofs.iter.Yields.{fronts}
use Rattle.std.proofs.lemmas.Iterator.{YieldsList-from_slice, YieldsList-from_take}
use Rattle.std.proofs.lemmas.Iterator.Search.{all_from_yields_List}
use Rattle.theory.specs.Fold.{all_below}
use Rattle.theory.proofs.Fold.{same_test, all_at, all_below_lem, below?}
use Rattle.sheet.proofs.ChainLaws.{AllRan, all_elements}

-- p is the test by index, and beyond the array it holds where it holds of every entry
module _ {A : Type 0} (p : ℕ → Bool) (xs : List A) (n : ℕ)
    (past : (k : ℕ) → length xs ≤ k → ((j : ℕ) → j < length xs → p j ≡ true) → p k ≡ true) where
  as_far : all_below p (length (take n xs)) ≡ all_below p n
  as_far =
      let long = length-take n xs in
      same_test _ _
      (λ t.
      all_below_lem p n
      (λ k l.
      ⊎_elim
      (λ (h : k < length xs). all_at p (length (take n xs)) t k (omega (arith, long)))
      (λ (h : length xs ≤ k). past k h (λ j m. all_at p (length (take n xs)) t j (omega (arith, long))))
      (below? k (length xs))))
      (λ t. all_below_lem p (length (take n xs)) (λ k l. all_at p n t k (omega (arith, long))))

  pub all_taken : {F : Type 0} {g : Mut F (Bor A × Unit {0}) Bool} {s : Take (Iter A)} {f : F} {r : Bool} (u : Take (Iter A)) (test : A → Bool) (d : A)
      → iter_rest (take_source s) ≡ xs → take_count s ≡ n → ((k : ℕ) → k < length xs → test (get_or xs k d) ≡ p k)
      → AllRan (take_steps fronts) g s u f r → ((x : Bor A) (b : Bool) (q : F) → Called g f (x, tt) b q → (q ≡ f) × (b ≡ test x.now))
      → r ≡ all_below p n
  all_taken {F} {g} {s} {f} {r} u test d begins count same ran said =
      let long = length-take n xs in
      all_from_yields_List test u f r ran (YieldsList-from_take n (YieldsList-from_slice xs begins) count) said
      ∙ all_elements test d p (take n xs) (λ k l. ap test (get_or-take n xs k d (omega (arith, long))) ∙ same k (omega (arith, long)))
      ∙ as_far
