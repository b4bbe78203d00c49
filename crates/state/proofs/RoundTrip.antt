-- Decoding what was encoded gives the state back. Assumes nothing.
use Prim.Native.Nat.{ℕ, ◌/◌, ◌%◌, ◌^◌, ◌<◌}
use mathlib.Core.Path.{◌≡◌, refl}
use mathlib.Core.Bool.{Bool, true, false, not, cond}
use mathlib.Core.List.{List, [], ◌∷◌}
use native.Mathlib.Omega.{arith}
use lib.Dec.{eqb}
use lib.ListN.{length, get_or}
use Rattle.theory.specs.Fold.{tabulate}
use Rattle.state.specs.State.{most_held, slots, unknown, slot_at}
use Rattle.state.specs.StateBytes.{turn_from, slot_from, slot_in, window_in, decode_state, flag_of, slot_bytes, encode_state}
use Rattle.state.specs.declared.state.Slot.{Slot}
use Rattle.state.specs.declared.state.State.{State}

-- a state that has bytes: a turn of four bytes, three held actions, seven slots
pub record HasBytes (s : State) : Type 0 where
  pub short_turn : s.turn < 256 ^ 4
  pub all_held : length s.last ≡ most_held
  pub all_slots : length s.window ≡ slots

-- decoding what was encoded

turn_back : (t : ℕ) → t < 256 ^ 4 → turn_from (t % 256) (t / 256 % 256) (t / 256 / 256 % 256) (t / 256 / 256 / 256 % 256) ≡ t
unfolding turn_from
turn_back t h = omega arith

known_back : (b : Bool) → not (eqb (cond b 1 0) 0) ≡ b
known_back true = refl
known_back false = refl

slot_back : (v : Slot) → slot_from (flag_of v) v.position ≡ v
unfolding slot_from flag_of
slot_back v = λ i. record { known = known_back v.known i; position = v.position }

actions_back : (l : List ℕ) → length l ≡ most_held → get_or l 0 0 ∷ get_or l 1 0 ∷ get_or l 2 0 ∷ [] ≡ l
actions_back [] e = absurd (omega arith)
actions_back (a ∷ []) e = absurd (omega arith)
actions_back (a ∷ b ∷ []) e = absurd (omega arith)
actions_back (a ∷ b ∷ c ∷ []) e = refl
actions_back (a ∷ b ∷ c ∷ d ∷ l) e = absurd (omega arith)

window_back : (l : List Slot) → length l ≡ slots
    → get_or l 0 unknown ∷ get_or l 1 unknown ∷ get_or l 2 unknown ∷ get_or l 3 unknown ∷ get_or l 4 unknown ∷ get_or l 5 unknown ∷ get_or l 6 unknown ∷ []
    ≡ l
window_back [] e = absurd (omega arith)
window_back (a ∷ []) e = absurd (omega arith)
window_back (a ∷ b ∷ []) e = absurd (omega arith)
window_back (a ∷ b ∷ c ∷ []) e = absurd (omega arith)
window_back (a ∷ b ∷ c ∷ d ∷ []) e = absurd (omega arith)
window_back (a ∷ b ∷ c ∷ d ∷ f ∷ []) e = absurd (omega arith)
window_back (a ∷ b ∷ c ∷ d ∷ f ∷ g ∷ []) e = absurd (omega arith)
window_back (a ∷ b ∷ c ∷ d ∷ f ∷ g ∷ h ∷ []) e = refl
window_back (a ∷ b ∷ c ∷ d ∷ f ∷ g ∷ h ∷ j ∷ l) e = absurd (omega arith)

slots_back : (s : State) → length s.window ≡ slots → (decode_state (encode_state s)).window ≡ s.window
unfolding decode_state encode_state window_in slot_in slot_bytes slot_at tabulate
slots_back s e = simp slot_back (window_back s.window e)

pub decode_encode : (s : State) → HasBytes s → decode_state (encode_state s) ≡ s
unfolding decode_state encode_state slot_bytes
decode_encode s h =
    λ i. record {
      turn = turn_back s.turn h.short_turn i;
      last = actions_back s.last h.all_held i;
      window = slots_back s h.all_slots i;
    }
