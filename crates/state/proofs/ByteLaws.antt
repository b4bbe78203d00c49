-- Decoding and encoding, as the code of src/bytes.rt finds them. Assumes nothing.
use Prim.Native.Nat.{ℕ, zero, suc, ◌+◌, ◌-◌, ◌/◌, ◌%◌, ◌≤◌, ◌<◌}
use mathlib.Core.Path.{◌≡◌, refl, sym, ◌∙◌, ap}
use mathlib.Core.Bool.{Bool, true, false, cond}
use mathlib.Core.List.{List}
use native.Mathlib.Omega.{arith}
use lib.Dec.{leb}
use lib.ListN.{get_or, get_or-eq_default}
use mir.Val.{bool_byte}
use borrow.Author.Tests.{le-leb}
use Rattle.std.specs.Int.{w64, to_le_bytes}
use Rattle.theory.specs.Fold.{tabulate}
use Rattle.theory.proofs.Fold.{either_left, length_tabulate, get_d_tabulate}
use Rattle.state.specs.State.{most_held, slots, unknown, slot_at}
use Rattle.state.specs.StateBytes.{state_bytes, known_at, position_at, slot_in, window_in, decode_state, flag_of, slot_bytes, encode_state, slot_filled}
use Rattle.state.specs.declared.state.State.{State}

-- a slot of the state that some bytes are

pub slot_decoded : (b : List ℕ) (k : ℕ) → k < slots → slot_at (decode_state b) k ≡ slot_in b k
unfolding slot_at decode_state window_in
slot_decoded b k h = get_d_tabulate (slot_in b) slots k unknown h

pub slot_none : (b : List ℕ) (k : ℕ) → slots ≤ k → slot_at (decode_state b) k ≡ unknown
unfolding slot_at decode_state window_in
slot_none b k h = get_or-eq_default (tabulate (slot_in b) 0 slots) unknown (rw (length_tabulate (slot_in b) 0 slots) h)

-- the bytes of a state, one by one

bool_is : (b : Bool) → bool_byte b ≡ cond b 1 0
bool_is true = refl
bool_is false = refl

module _ (s : State) where
  action_at : (k : ℕ) → k < most_held → get_or (encode_state s) (4 + k) 0 ≡ get_or s.last k 0
  unfolding encode_state
  action_at zero h = refl
  action_at (suc zero) h = refl
  action_at (suc (suc zero)) h = refl
  action_at (suc (suc (suc k))) h = absurd (omega arith)

  slot_bytes_at : (k : ℕ) → k < slots
      → (get_or (encode_state s) (known_at k) 0 ≡ flag_of (slot_at s k)) × (get_or (encode_state s) (position_at k) 0 ≡ (slot_at s k).position)
  unfolding encode_state slot_bytes
  slot_bytes_at zero h = (refl, refl)
  slot_bytes_at (suc zero) h = (refl, refl)
  slot_bytes_at (suc (suc zero)) h = (refl, refl)
  slot_bytes_at (suc (suc (suc zero))) h = (refl, refl)
  slot_bytes_at (suc (suc (suc (suc zero)))) h = (refl, refl)
  slot_bytes_at (suc (suc (suc (suc (suc zero))))) h = (refl, refl)
  slot_bytes_at (suc (suc (suc (suc (suc (suc zero)))))) h = (refl, refl)
  slot_bytes_at (suc (suc (suc (suc (suc (suc (suc k))))))) h = absurd (omega arith)

  pub turn_byte : (i : ℕ) → i < 4 → get_or (to_le_bytes w64 s.turn) i 0 ≡ get_or (encode_state s) i 0
  unfolding encode_state
  turn_byte zero h = refl
  turn_byte (suc zero) h = refl
  turn_byte (suc (suc zero)) h = omega arith
  turn_byte (suc (suc (suc zero))) h = omega arith
  turn_byte (suc (suc (suc (suc i)))) h = absurd (omega arith)

  module _ (i : ℕ) where
    pub action_byte : 4 ≤ i → i < 7 → get_or s.last (i - 4) 0 ≡ get_or (encode_state s) i 0
    action_byte h l =
        let e : 4 + (i - 4) ≡ i = omega arith in
        sym (action_at (i - 4) (omega arith)) ∙ ap (λ i. get_or (encode_state s) i 0) e

    module _ (h : 7 ≤ i) (l : i < state_bytes) where
      pub known_byte : (i - 7) % 2 ≡ 0 → bool_byte (get_or s.window ((i - 7) / 2) unknown).known ≡ get_or (encode_state s) i 0
      unfolding slot_at flag_of
      known_byte z =
          let e : known_at ((i - 7) / 2) ≡ i = omega arith in
          bool_is _ ∙ sym (slot_bytes_at ((i - 7) / 2) (omega arith)).0 ∙ ap (λ i. get_or (encode_state s) i 0) e

      pub position_byte : ((i - 7) % 2 ≡ 0 → ⊥) → (get_or s.window ((i - 7) / 2) unknown).position ≡ get_or (encode_state s) i 0
      unfolding slot_at
      position_byte z =
          let e : position_at ((i - 7) / 2) ≡ i = omega arith in
          sym (slot_bytes_at ((i - 7) / 2) (omega arith)).1 ∙ ap (λ i. get_or (encode_state s) i 0) e

  pub encoded_whole : tabulate (λ i. get_or (encode_state s) i 0) 0 state_bytes ≡ encode_state s
  unfolding encode_state slot_bytes tabulate
  encoded_whole = refl

pub ruleset bytes = (turn_byte, action_byte, known_byte, position_byte)

pub filled_none : (b : List ℕ) (k p : ℕ) → slots ≤ k → b ≡ slot_filled b k p
unfolding slot_filled
filled_none b k p h = rw (either_left (leb slots k) (slot_in b k).known (le-leb slots k h))
