-- Reading a buffer of zeros, and one that was filled from its front. Assumes nothing.
use Prim.Native.Nat.{ℕ, zero, suc, ◌+◌, ◌-◌, ◌≤◌, ◌<◌}
use mathlib.Core.Path.{◌≡◌, refl, sym, ◌∙◌, ap}
use mathlib.Core.List.{List, ◌++◌}
use native.Mathlib.Omega.{arith}
use lib.ListN.{length, get_or, take, drop, replicate, length-append, get_or-append}
use lib.Seq.{take-append_seam, get_or-append-add, get_or-drop}
use Rattle.theory.specs.Buffer.{over}

pub zeros : (n k : ℕ) → get_or (replicate {A = ℕ} n 0) k 0 ≡ 0
zeros zero k = refl
zeros (suc n) zero = refl
zeros (suc n) (suc k) = zeros n k

pub over_front : (entries buffer : List ℕ) (k : ℕ) → k < length entries → get_or (over entries buffer) k 0 ≡ get_or entries k 0
unfolding over
over_front entries buffer k h = get_or-append entries (drop (length entries) buffer) 0 k h

pub over_beyond : (entries buffer : List ℕ) (k : ℕ) → length entries ≤ k → get_or (over entries buffer) k 0 ≡ get_or buffer k 0
unfolding over
over_beyond entries buffer k h =
    let q : k ≡ length entries + (k - length entries) = omega arith in
    ap (λ i. get_or (entries ++ drop (length entries) buffer) i 0) q
    ∙ get_or-append-add entries (drop (length entries) buffer) (k - length entries) 0
    ∙ get_or-drop (length entries) buffer (k - length entries) 0
    ∙ ap (λ i. get_or buffer i 0) (sym q)

pub over_first : (entries buffer : List ℕ) (n : ℕ) → n ≡ length entries → take n (over entries buffer) ≡ entries
unfolding over
over_first entries buffer n e = rw e (take-append_seam entries (drop (length entries) buffer))

pub over_room : (entries buffer : List ℕ) → length entries ≤ length (over entries buffer)
unfolding over
over_room entries buffer = rw length-append (omega arith)
