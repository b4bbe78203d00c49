-- The controller's state: actions and observations by age, the newest first. Assumes nothing.
use Rattle.std.specs.Prelude.{ℕ, suc, ◌-◌, ◌*◌, ◌/◌, min, Bool, true, false, not, cond, List, [], ◌∷◌, eqb, leb, ltb, get_or, set, replicate, Option, None, Some}
use Rattle.theory.specs.Fold.{both, either, all_below, tabulate}
use Rattle.table.specs.TableSheet.{TableSheet}
use Rattle.state.specs.declared.state.Slot.{Slot}
use Rattle.state.specs.declared.state.State.{State}

-- the last turn's number: "15: turn is 1,000,000"
abbrev pub last_turn : ℕ
last_turn = 1000000

-- the held actions at the largest delay: L is 3
abbrev pub most_held : ℕ
most_held = 3

-- the slots of a window at the largest delay: indices 2i - 6 to 2i
abbrev pub slots : ℕ
slots = 7

-- an index that was not observed, and one that was
abbrev pub unknown : Slot
unknown = record { known = false; position = 0 }

abbrev pub seen : ℕ → Slot
seen p = record { known = true; position = p }

-- the position in a slot, if one was observed
unfoldable pub observed_in : Slot → Option ℕ
observed_in w = cond w.known (Some w.position) None

-- "turn 0, no command given, no report heard"
abbrev pub opened : State
opened = record { turn = 0; last = replicate most_held 0; window = replicate slots unknown }

-- the slot of age k, for the index 2 * turn - k
unfoldable pub slot_at : State → ℕ → Slot
slot_at s k = get_or s.window k unknown

-- a slot that says nothing else than position p
unfoldable pub agrees : Slot → ℕ → Bool
agrees w p = either (not w.known) (eqb w.position p)

-- action k of the held ones is an action
unfoldable pub held_at : ℕ → List ℕ → ℕ → Bool
held_at actions last k = ltb (get_or last k 0) actions

-- the position in slot k, if there is one, is not over the highest
unfoldable pub within_at : ℕ → List Slot → ℕ → Bool
within_at highest window k = either (not (get_or window k unknown).known) (leb (get_or window k unknown).position highest)

-- "a held command (the last L given, or all given before turn L) not below A"
unfoldable pub held_ok : TableSheet → State → Bool
held_ok x s = all_below (held_at x.actions s.last) (min (x.delay / 2) s.turn)

-- "a heard position in the window over the highest": the window has the indices from 2i - d, "never below 0", to 2i
unfoldable pub window_ok : TableSheet → State → Bool
window_ok x s = all_below (within_at x.highest s.window) (suc (min x.delay (2 * s.turn)))

-- what refusal 20 leaves; "turn over 1,000,000" is the first of its reasons
unfoldable pub state_ok : TableSheet → State → Bool
state_ok x s = both (leb s.turn last_turn) (both (held_ok x s) (window_ok x s))

-- the state after position p was observed at index k. A repeat "changes nothing"
abbrev pub observed : State → ℕ → ℕ → State
observed s k p = record { turn = s.turn; last = s.last; window = set s.window (2 * s.turn - k) (seen p) }

-- the last three actions once a was taken
unfoldable pub pushed : ℕ → List ℕ → List ℕ
pushed a last = a ∷ get_or last 0 0 ∷ get_or last 1 0 ∷ []

-- slot k a turn later: two indices are new, and "reports below the new window are dropped"
unfoldable pub shifted_at : ℕ → List Slot → ℕ → Slot
shifted_at d window k = cond (both (leb 2 k) (leb k d)) (get_or window (k - 2) unknown) unknown

unfoldable pub shifted : ℕ → List Slot → List Slot
shifted d window = tabulate (shifted_at d window) 0 slots

-- the state after action a was taken under delay d: "the turn goes up by one"
abbrev pub acted_state : ℕ → State → ℕ → State
acted_state d s a = record { turn = suc s.turn; last = pushed a s.last; window = shifted d s.window }
