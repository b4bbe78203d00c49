-- Opening, observing and acting, over what a table sheet says and over its bytes: document 01's "Opening the
-- cabin", "Hearing a report" and "Giving the command", each a chain of checks in the order written; and document 02's hearing of a packet
-- (W-204). Assumes nothing.
use Rattle.std.specs.Prelude.{ℕ, suc, ◌+◌, ◌-◌, ◌*◌, ◌/◌, Bool, not, List, [], ◌∷◌, eqb, leb, ltb, take}
use Rattle.theory.specs.Fold.{either}
use Rattle.theory.specs.Answer.{Answer, refused, accepted, check, on_accepted}
use Rattle.theory.specs.Exact.{MaybeAction, none, some, action_at}
use Rattle.table.specs.TableSheet.{TableSheet, table_answer}
use Rattle.state.specs.State.{last_turn, opened, slot_at, agrees, state_ok, observed, acted_state}
use Rattle.state.specs.declared.state.State.{State}
use Rattle.controller.specs.declared.calls.Observation.{Observation}
use Rattle.controller.specs.declared.calls.TurnTaken.{TurnTaken}

-- "20; 16: position over the highest; 17: index below 2i - d (never below 0); 18: index over 2i; 19: that index heard with
-- another position"
unfoldable pub observe_with : TableSheet → State → ℕ → ℕ → Answer State
observe_with x s k p =
    check (state_ok x s) 20
    (check (leb p x.highest) 16
    (check (leb (2 * s.turn) (k + x.delay)) 17
    (check (leb k (2 * s.turn)) 18 (check (agrees (slot_at s (2 * s.turn - k)) p) 19 (accepted (observed s k p))))))

-- the word of these actions, newest first
unfoldable pub word_of : ℕ → List ℕ → ℕ
word_of A [] = 0
word_of A (a ∷ older) = word_of A older * A + a

-- "14: the mask of that report's pair is 0"
unfoldable pub obey : TableSheet → State → MaybeAction → Answer TurnTaken
obey x s none = refused 14
obey x s (some a) = accepted (record { action = a; state = acted_state x.delay s a })

-- the action of the state's turn, by the rule of the exact play: from the observation of index 2i - d and the last L actions.
-- "Fresher reports have no say"
unfoldable pub next_action : TableSheet → State → MaybeAction
next_action x s =
    action_at x.actions x.delay x.table s.turn (slot_at s x.delay).position
    (word_of x.actions (take (x.delay / 2) s.last))

-- what refusal 13 leaves: 2i is below d, or index 2i - d was observed
unfoldable pub needed_known : TableSheet → State → Bool
needed_known x s = either (ltb (2 * s.turn) x.delay) (slot_at s x.delay).known

-- "20; 15: turn is 1,000,000; 13: 2i is at least d and index 2i - d is unheard; 14"
unfoldable pub act_with : TableSheet → State → Answer TurnTaken
act_with x s =
    check (state_ok x s) 20
    (check (not (eqb s.turn last_turn)) 15 (check (needed_known x s) 13 (obey x s (next_action x s))))

-- the operations over a sheet's bytes: each reads them, "10 to 12", on every call
unfoldable pub open_answer : List ℕ → Answer State
open_answer t = on_accepted (table_answer t) (λ x. accepted opened)

unfoldable pub observe_answer : List ℕ → State → ℕ → ℕ → Answer State
observe_answer t s k p = on_accepted (table_answer t) (λ x. observe_with x s k p)

unfoldable pub act_answer : List ℕ → State → Answer TurnTaken
act_answer t s = on_accepted (table_answer t) (λ x. act_with x s)

-- "up to 16 reports at a time"
abbrev pub most_observations : ℕ
most_observations = 16

-- what observing several comes to: the state after all of them, or "the first refusal and .. its place in the list"
pub data Heard : Type 0 where
  heard_all : State → Heard
  refused_at : ℕ → ℕ → Heard

unfoldable pub on_heard : ℕ → Answer State → (State → Heard) → Heard
on_heard place (refused n) rest = refused_at n place
on_heard place (accepted next) rest = rest next

-- "hearing them singly, first to last", each on the state that the one before it left; place is the first one's
unfoldable pub observe_each : TableSheet → State → ℕ → List Observation → Heard
observe_each x s place [] = heard_all s
observe_each x s place (o ∷ later) =
    on_heard place (observe_with x s o.index o.position) (λ next. observe_each x next (suc place) later)

-- what is refused of a packet of n before any record is looked at: "10 to 12 and 20, then 22 for more than 16"
unfoldable pub packet_answer : List ℕ → State → ℕ → Answer TableSheet
packet_answer t s n =
    on_accepted (table_answer t) (λ x. check (state_ok x s) 20 (check (leb n most_observations) 22 (accepted x)))
