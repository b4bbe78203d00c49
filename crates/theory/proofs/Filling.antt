-- A list that a loop fills from the front, and its laws. Assumes nothing.
use Prim.Native.Nat.{ℕ, suc, ◌+◌, ◌-◌, ◌≤◌, ◌<◌}
use mathlib.Core.Path.{◌≡◌, sym, ◌∙◌, ap}
use mathlib.Core.List.{List, ◌++◌, append-nil}
use native.Mathlib.Omega.{arith}
use native.Mathlib.Numerals.{add-one}
use lib.ListN.{length, get_or, drop, set, length-append, length-drop, drop_of_length-le, get_or-append}
use lib.Seq.{get_or-drop, get_or-append-add, drop-cons, set_at, append_snoc, set-get_or}
use Rattle.theory.specs.Fold.{tabulate}
use Rattle.theory.specs.Buffer.{over}
use Rattle.theory.proofs.Fold.{length_tabulate, get_d_tabulate, tabulate_zero, tabulate_last}

-- l with its first k entries replaced by f 0, f 1, ..
unfoldable pub filled : {A : Type 0} → (ℕ → A) → ℕ → List A → List A
filled f k l = tabulate f 0 k ++ drop k l

module _ {A : Type 0} (f : ℕ → A) (l : List A) where
  pub length_filled : (k : ℕ) → k ≤ length l → length (filled f k l) ≡ length l
  unfolding filled
  length_filled k h =
      rw (length-append (tabulate f 0 k) (drop k l), length_tabulate f 0 k, length-drop k l) (omega arith)

  pub filled_none : l ≡ filled f 0 l
  unfolding filled
  filled_none = rw (tabulate_zero f 0)

  -- one entry more is written
  pub filled_more : (k : ℕ) {v : A} {m : List A} → m ≡ filled f k l → k < length l → v ≡ f k → set m k v ≡ filled f (k + 1) l
  unfolding filled
  filled_more k {v} {m} e h q =
      rw (e, add-one k, drop-cons l k v h)
      (set_at (tabulate f 0 k) (get_or l k v) (drop (suc k) l) v k (length_tabulate f 0 k)
      ∙ rw (q, tabulate_last f k) (sym (append_snoc (tabulate f 0 k) (f k) (drop (suc k) l))))

  -- the entries before the loop are still the list's own
  pub filled_rest : (k j : ℕ) (d : A) → k ≤ j → get_or (filled f k l) j d ≡ get_or l j d
  unfolding filled
  filled_rest k j d h =
      let n = length_tabulate f 0 k in
      let q : j ≡ length (tabulate f 0 k) + (j - k) = omega arith in
      let r : k + (j - k) ≡ j = omega arith in
      ap (λ (i : ℕ). get_or (tabulate f 0 k ++ drop k l) i d) q
      ∙ get_or-append-add (tabulate f 0 k) (drop k l) (j - k) d
      ∙ get_or-drop k l (j - k) d
      ∙ ap (λ (i : ℕ). get_or l i d) r

  -- the loop is over
  pub filled_done : (k n : ℕ) {m : List A} → m ≡ filled f k l → length l ≡ n → k ≤ n → n ≤ k → m ≡ tabulate f 0 n
  unfolding filled
  filled_done k n {m} e q h g =
      let r : k ≡ n = omega arith in
      e ∙ ap (λ (x : List A). tabulate f 0 k ++ x) (drop_of_length-le l {i = k} (omega arith)) ∙ append-nil (tabulate f 0 k) ∙ ap (tabulate f 0) r

-- a list of numbers

module _ (f : ℕ → ℕ) (l : List ℕ) where
  -- behind the loop
  pub filled_below : (k j : ℕ) → j < k → get_or (filled f k l) j 0 ≡ f j
  unfolding filled
  filled_below k j h =
      get_or-append (tabulate f 0 k) (drop k l) 0 j (rw (length_tabulate f 0 k) h) ∙ get_d_tabulate f k j 0 h

  -- before it
  pub filled_above : (k j : ℕ) → k ≤ j → get_or (filled f k l) j 0 ≡ get_or l j 0
  filled_above k j h = filled_rest f l k j 0 h

  -- one entry more is right as it is
  pub filled_keep : (k : ℕ) {m : List ℕ} → m ≡ filled f k l → k < length l → get_or l k 0 ≡ f k → m ≡ filled f (k + 1) l
  filled_keep k {m} e h q =
      let here : get_or m k 0 ≡ f k = ap (λ (x : List ℕ). get_or x k 0) e ∙ filled_above k k (omega arith) ∙ q in
      sym (set-get_or m k 0) ∙ filled_more f l k e h here

  -- what stands at the front of the list then
  pub filled_over : (n : ℕ) → filled f n l ≡ over (tabulate f 0 n) l
  unfolding filled over
  filled_over n = rw (length_tabulate f 0 n)
