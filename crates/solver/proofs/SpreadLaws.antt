-- The loops over chains (src/spread.rt): what is left to mark from here on is what was to be marked. Assumes nothing.
use Prim.Native.Nat.{ℕ}
use mathlib.Core.Path.{◌≡◌, sym, ◌∙◌, ap}
use mathlib.Core.List.{List, [], ◌∷◌, map, foldl, foldl-append}
use Rattle.solver.specs.code.Work.{Work, mark_to, marks_to}
use Rattle.solver.specs.code.Spread.{gather}

-- what is left to mark after one place more is what was left before it, and nothing is at the end
module _ (n c : ℕ) (f : ℕ → ℕ) where
  pub marks_step : (w : Work) {b v : Work} {xs ys : List ℕ} {x k : ℕ} → b ≡ marks_to n c w (map f xs) → xs ≡ x ∷ ys → k ≡ f x → v ≡ mark_to n c w k
      → b ≡ marks_to n c v (map f ys)
  unfolding marks_to
  marks_step w {ys = ys} b e k m =
      b ∙ ap (λ (l : List ℕ). foldl (mark_to n c) w (map f l)) e ∙ ap (λ (x : Work). foldl (mark_to n c) x (map f ys)) (sym (m ∙ ap (mark_to n c w) k))

  pub marks_done : (w : Work) {b : Work} {xs : List ℕ} → b ≡ marks_to n c w (map f xs) → xs ≡ [] → w ≡ b
  unfolding marks_to
  marks_done w b e = sym (b ∙ ap (λ (l : List ℕ). foldl (mark_to n c) w (map f l)) e)

-- the same where a place has nodes of its own
module _ (n c : ℕ) (f : ℕ → List ℕ) where
  pub gather_step : (w : Work) {b v : Work} {xs ys : List ℕ} {x : ℕ} → b ≡ marks_to n c w (gather f xs) → xs ≡ x ∷ ys → v ≡ marks_to n c w (f x)
      → b ≡ marks_to n c v (gather f ys)
  unfolding marks_to gather
  gather_step w {ys = ys} {x = x} b e m =
      b ∙ ap (λ (l : List ℕ). foldl (mark_to n c) w (gather f l)) e ∙ foldl-append (mark_to n c) w (f x) (gather f ys)
      ∙ ap (λ (x : Work). foldl (mark_to n c) x (gather f ys)) (sym m)

  pub gather_done : (w : Work) {b : Work} {xs : List ℕ} → b ≡ marks_to n c w (gather f xs) → xs ≡ [] → w ≡ b
  unfolding marks_to gather
  gather_done w b e = sym (b ∙ ap (λ (l : List ℕ). foldl (mark_to n c) w (gather f l)) e)
