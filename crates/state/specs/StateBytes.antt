-- The controller's state as 21 bytes: the turn in four, low first, at 0; the held actions at 4; slot k of the window at 7 + 2k, a
-- byte that is not 0 where it is known, then its position. Any bytes are a state. Assumes nothing.
use Rattle.std.specs.Prelude.{ℕ, ◌+◌, ◌-◌, ◌*◌, ◌/◌, ◌%◌, cond, not, List, [], ◌∷◌, eqb, leb, get_or, set}
use Rattle.theory.specs.Fold.{either, tabulate}
use Rattle.state.specs.State.{slots, slot_at}
use Rattle.state.specs.declared.state.Slot.{Slot}
use Rattle.state.specs.declared.state.State.{State}

-- the number of bytes
abbrev pub state_bytes : ℕ
state_bytes = 21

-- where slot k says whether it is known, and where its position is
abbrev pub known_at : ℕ → ℕ
known_at k = 7 + 2 * k

abbrev pub position_at : ℕ → ℕ
position_at k = 8 + 2 * k

unfoldable pub turn_from : ℕ → ℕ → ℕ → ℕ → ℕ
turn_from a b c d = a + 256 * (b + 256 * (c + 256 * d))

unfoldable pub slot_from : ℕ → ℕ → Slot
slot_from known position = record { known = not (eqb known 0); position = position }

-- slot k
unfoldable pub slot_in : List ℕ → ℕ → Slot
slot_in b k = slot_from (get_or b (known_at k) 0) (get_or b (position_at k) 0)

unfoldable pub window_in : List ℕ → List Slot
window_in b = tabulate (slot_in b) 0 slots

unfoldable pub decode_state : List ℕ → State
decode_state b =
    record {
      turn = turn_from (get_or b 0 0) (get_or b 1 0) (get_or b 2 0) (get_or b 3 0);
      last = get_or b 4 0 ∷ get_or b 5 0 ∷ get_or b 6 0 ∷ [];
      window = window_in b;
    }

unfoldable pub flag_of : Slot → ℕ
flag_of v = cond v.known 1 0

-- the bytes of slot k, before the others
unfoldable pub slot_bytes : State → ℕ → List ℕ → List ℕ
slot_bytes s k later = flag_of (slot_at s k) ∷ (slot_at s k).position ∷ later

unfoldable pub encode_state : State → List ℕ
encode_state s =
    s.turn % 256
    ∷ s.turn / 256 % 256
    ∷ s.turn / 256 / 256 % 256
    ∷ s.turn / 256 / 256 / 256 % 256
    ∷ get_or s.last 0 0
    ∷ get_or s.last 1 0
    ∷ get_or s.last 2 0
    ∷ slot_bytes s 0 (slot_bytes s 1 (slot_bytes s 2 (slot_bytes s 3 (slot_bytes s 4 (slot_bytes s 5 (slot_bytes s 6 []))))))

-- the bytes once position p was observed in slot k: only the slot's own two change, and none where it is known already (a repeat
-- "changes nothing") or there is no such slot
unfoldable pub slot_filled : List ℕ → ℕ → ℕ → List ℕ
slot_filled b k p = cond (either (leb slots k) (slot_in b k).known) b (set (set b (known_at k) 1) (position_at k) p)

-- the bytes once position p was observed at index k
abbrev pub index_filled : List ℕ → ℕ → ℕ → List ℕ
index_filled b k p = slot_filled b (2 * (decode_state b).turn - k) p
