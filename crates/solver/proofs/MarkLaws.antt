-- The loops over the nodes of a row, the rows and the queue's entries: what is left from here on is all that was to be done.
-- Assumes nothing.
use Prim.Native.Nat.{ℕ, suc, ◌+◌, ◌-◌, ◌≤◌, ◌<◌}
use mathlib.Core.Path.{◌≡◌, sym, ◌∙◌, ap}
use native.Mathlib.Omega.{arith}
use Rattle.solver.specs.code.Work.{Work, steps_to}

module _ (f : Work → ℕ → Work) (w : Work) where
  pub steps_again : (i end : ℕ) {b v : Work} → b ≡ steps_to f w i (end - i) → i < end → v ≡ f w i → b ≡ steps_to f v (i + 1) (end - (i + 1))
  unfolding steps_to
  steps_again i end q h e =
      let c : end - i ≡ suc (end - (i + 1)) = omega arith in
      q ∙ ap (λ x. steps_to f w i x) c ∙ ap (λ x. steps_to f x (i + 1) (end - (i + 1))) (sym e)

  pub steps_end : (i end : ℕ) {b : Work} → b ≡ steps_to f w i (end - i) → end ≤ i → w ≡ b
  unfolding steps_to
  steps_end i end q h = let c : end - i ≡ 0 = omega arith in sym (q ∙ ap (λ x. steps_to f w i x) c)

  pub steps_start : (k count end : ℕ) → end ≡ k + count → steps_to f w k count ≡ steps_to f w k (end - k)
  steps_start k count end e = let c : end - k ≡ count = omega arith in ap (steps_to f w k) (sym c)
