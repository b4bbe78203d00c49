-- What an observation leaves: the bytes decode to the observed state, and a repeat "changes nothing". Assumes nothing.
use Prim.Native.Nat.{ℕ, ◌-◌, ◌*◌, ◌≤◌, ◌<◌}
use mathlib.Core.Path.{◌≡◌, sym, ◌∙◌, ap, ap₂}
use mathlib.Core.Bool.{true, false}
use mathlib.Core.List.{List, [], ◌∷◌}
use mathlib.Core.Logic.{⊎_elim}
use native.Mathlib.Omega.{arith}
use borrow.Author.Tests.{lt-leb, eqb-true}
use lib.Dec.{leb}
use lib.ListN.{length, get_or, set, length-set}
use lib.Seq.{get_or-set_same, get_or-set_other, set-get_or}
use Rattle.theory.specs.Fold.{either}
use Rattle.theory.proofs.Fold.{bool, below?, either_right, tabulate_set}
use Rattle.state.specs.State.{slots, unknown, seen, slot_at, agrees, observed}
use Rattle.state.specs.StateBytes.{state_bytes, known_at, position_at, turn_from, slot_from, slot_in, window_in, decode_state, slot_filled}
use Rattle.state.specs.declared.state.Slot.{Slot}
use Rattle.state.specs.declared.state.State.{State}
use Rattle.state.proofs.ByteLaws.{slot_decoded, filled_none}

-- a slot that is known and agrees with p says p
known_says : (w : Slot) (p : ℕ) → w.known ≡ true → agrees w p ≡ true → w ≡ seen p
unfolding agrees either
known_says w p k a =
    let e : w.position ≡ p = eqb-true w.position p (rw k at a) in
    λ i. record { known = k i; position = e i }

known_set : (window : List Slot) (k p : ℕ) → (get_or window k unknown).known ≡ true → agrees (get_or window k unknown) p ≡ true
    → set window k (seen p) ≡ window
known_set window k p known a = ap (set window k) (sym (known_says _ p known a)) ∙ set-get_or window k unknown

-- of states: observing again what is known leaves the state
pub repeat_same : (s : State) (k p : ℕ) → (slot_at s (2 * s.turn - k)).known ≡ true → agrees (slot_at s (2 * s.turn - k)) p ≡ true
    → observed s k p ≡ s
unfolding slot_at
repeat_same s k p known a =
    λ i. record { turn = s.turn; last = s.last; window = known_set s.window (2 * s.turn - k) p known a i }

-- the bytes of a slot that is filled anew, and every other byte

module _ (b : List ℕ) (k p : ℕ) where
  abbrev pub anew : List ℕ
  anew = set (set b (known_at k) 1) (position_at k) p

  byte_kept : (j : ℕ) → (j ≡ known_at k → ⊥) → (j ≡ position_at k → ⊥) → get_or anew j 0 ≡ get_or b j 0
  byte_kept j e f = get_or-set_other (set b (known_at k) 1) (position_at k) j p 0 f ∙ get_or-set_other b (known_at k) j 1 0 e

  pub slot_kept : (j : ℕ) → (j ≡ k → ⊥) → slot_in anew j ≡ slot_in b j
  unfolding slot_in
  slot_kept j e =
      ap₂ slot_from
      (byte_kept (known_at j) (λ f. e (omega arith)) (λ f. omega arith))
      (byte_kept (position_at j) (λ f. omega arith) (λ f. e (omega arith)))

  module _ (long : length b ≡ state_bytes) (h : k < slots) where
    slot_new : slot_in anew k ≡ seen p
    unfolding slot_in slot_from
    slot_new =
        let far : position_at k < length (set b (known_at k) 1) = rw (length-set b (known_at k) 1) (omega arith) in
        let one : get_or anew (known_at k) 0 ≡ 1 =
        get_or-set_other (set b (known_at k) 1) (position_at k) (known_at k) p 0 (λ f. omega arith)
        ∙ get_or-set_same b (known_at k) 1 0 (omega arith) in
        ap₂ slot_from one (get_or-set_same (set b (known_at k) 1) (position_at k) p 0 far)

    decode_anew : decode_state anew
        ≡ record { turn = (decode_state b).turn; last = (decode_state b).last; window = set (decode_state b).window k (seen p) }
    unfolding decode_state window_in
    decode_anew =
        let kept : (j : ℕ) → j < 7 → get_or anew j 0 ≡ get_or b j 0 = λ j l. byte_kept j (λ f. omega arith) (λ f. omega arith) in
        let window = sym (tabulate_set (slot_in b) (slot_in anew) slots k (seen p) h slot_new slot_kept) in
        λ i. record {
          turn = turn_from (kept 0 (omega arith) i) (kept 1 (omega arith) i) (kept 2 (omega arith) i) (kept 3 (omega arith) i);
          last = kept 4 (omega arith) i ∷ kept 5 (omega arith) i ∷ kept 6 (omega arith) i ∷ [];
          window = window i;
        }

pub filled_left : (b : List ℕ) (k p : ℕ) → (slot_in b k).known ≡ true → slot_filled b k p ≡ b
unfolding slot_filled
filled_left b k p e = rw (either_right _ _ e)

-- of bytes: where the state that they mean knows slot k, they are left, byte for byte
pub repeat_bytes : (b : List ℕ) (k p : ℕ) → (slot_at (decode_state b) k).known ≡ true → slot_filled b k p ≡ b
repeat_bytes b k p e =
    ⊎_elim
    (λ (h : k < slots). filled_left b k p (ap (λ (w : Slot). w.known) (sym (slot_decoded b k h)) ∙ e))
    (λ (h : slots ≤ k). sym (filled_none b k p h))
    (below? k slots)

pub filled_anew : (b : List ℕ) (k p : ℕ) → k < slots → (slot_in b k).known ≡ false → slot_filled b k p ≡ anew b k p
unfolding slot_filled either
filled_anew b k p h e = rw (lt-leb slots k h, e)

-- for any bytes of a state: filling slot k with a position that agrees with it is observing
pub decode_filled : (b : List ℕ) (k p : ℕ) → length b ≡ state_bytes → k < slots → agrees (slot_at (decode_state b) k) p ≡ true
    → decode_state (slot_filled b k p)
    ≡ record { turn = (decode_state b).turn; last = (decode_state b).last; window = set (decode_state b).window k (seen p) }
unfolding slot_at
decode_filled b k p long h a =
    let is = slot_decoded b k h in
    ⊎_elim
    (λ (e : (slot_in b k).known ≡ true).
    let same = known_set (decode_state b).window k p (ap (λ (w : Slot). w.known) is ∙ e) a in
    ap decode_state (filled_left b k p e)
    ∙ (λ i. record { turn = (decode_state b).turn; last = (decode_state b).last; window = sym same i }))
    (λ (e : (slot_in b k).known ≡ false). ap decode_state (filled_anew b k p h e) ∙ decode_anew b k p long h)
    (bool (slot_in b k).known)

-- and there are as many bytes as before
pub length_filled : (b : List ℕ) (k p : ℕ) → length (slot_filled b k p) ≡ length b
unfolding slot_filled
length_filled b k p = ⊎_elim
    (λ (e : either (leb slots k) (slot_in b k).known ≡ true). rw e)
    (λ (e : either (leb slots k) (slot_in b k).known ≡ false). rw e (length-set (set b (known_at k) 1) (position_at k) p ∙ length-set b (known_at k) 1))
    (bool (either (leb slots k) (slot_in b k).known))
