-- The controller's calls as C callers have them: a number, the action, and the state's bytes after the call, as they were where it was
-- refused. t is the table sheet, b the bytes before the call. Assumes nothing.
use Rattle.std.specs.Prelude.{ℕ, List, [], ◌∷◌}
use Rattle.theory.specs.Answer.{Answer}
use Rattle.state.specs.StateBytes.{decode_state, encode_state, index_filled}
use Rattle.state.specs.declared.state.State.{State}
use Rattle.controller.specs.Controller.{open_answer, observe_answer, act_answer}
use Rattle.controller.specs.Accuracy.{Call, observe, observe_all, act, Response, accepts, acts, refuses, refuses_at}
use Rattle.controller.specs.declared.calls.TurnTaken.{TurnTaken}
use Rattle.packet.specs.Packet.{packet_reply}
use Rattle.packet.specs.Told.{told}
use Rattle.capi.specs.Exported.{number_for, written}

-- observing and acting, by the state that the bytes mean
abbrev pub observing : List ℕ → List ℕ → ℕ → ℕ → Answer State
observing t b k p = observe_answer t (decode_state b) k p

abbrev pub acting : List ℕ → List ℕ → Answer TurnTaken
acting t b = act_answer t (decode_state b)

-- opening leaves the opened state's bytes
abbrev pub bytes_opened : List ℕ → List ℕ → List ℕ
bytes_opened t b = written encode_state (open_answer t) b

-- observing writes to its own slot, and "a repeat with the same position is accepted and changes nothing"
abbrev pub bytes_observed : List ℕ → List ℕ → ℕ → ℕ → List ℕ
bytes_observed t b k p = written (λ s. index_filled b k p) (observing t b k p) b

-- acting leaves the next state's bytes, and the action
abbrev pub bytes_acted : List ℕ → List ℕ → List ℕ
bytes_acted t b = written (λ a. encode_state a.state) (acting t b) b

abbrev pub action_after : List ℕ → List ℕ → ℕ → ℕ
action_after t b before = written (λ a. a.action) (acting t b) before

-- one of the calls of demand 3: its number, that number by demand 3's response, and the bytes after it
abbrev pub call_number : List ℕ → List ℕ → Call → ℕ
call_number t b (observe k p) = number_for (observing t b k p)
call_number t b (observe_all os) = (told (packet_reply t b os).response).refusal
call_number t b act = number_for (acting t b)

abbrev pub response_number : Response → ℕ
response_number accepts = 0
response_number (acts a) = 0
response_number (refuses n) = n
response_number (refuses_at n place) = n

abbrev pub bytes_after : List ℕ → List ℕ → Call → List ℕ
bytes_after t b (observe k p) = bytes_observed t b k p
bytes_after t b (observe_all os) = (packet_reply t b os).bytes
bytes_after t b act = bytes_acted t b

-- the bytes after some calls, each on those that the call before it left
unfoldable pub run_bytes : List ℕ → List ℕ → List Call → List ℕ
run_bytes t b [] = b
run_bytes t b (c ∷ later) = run_bytes t (bytes_after t b c) later
