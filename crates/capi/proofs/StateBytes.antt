-- Calls over a state's bytes are the calls of the controller's claim (demand 3, in claims/proofs/Accuracy.antt), and a repeat changes no
-- byte. Assumes nothing.
use Prim.Native.Nat.{ℕ, ◌-◌, ◌*◌, ◌≤◌}
use mathlib.Core.Path.{◌≡◌, refl, ◌∙◌, ap, subst}
use mathlib.Core.Bool.{true}
use mathlib.Core.List.{List, [], ◌∷◌}
use native.Mathlib.Omega.{arith}
use lib.ListN.{length}
use borrow.Author.Tests.{leb-true}
use Rattle.theory.specs.Fold.{tabulate}
use Rattle.theory.specs.Answer.{Answer, refused, accepted}
use Rattle.theory.specs.Exact.{MaybeAction, none, some}
use Rattle.theory.proofs.Fold.{both_left}
use Rattle.theory.proofs.Answer.{refused_not_accepted, accepted_same, check_accepted, accepted_on}
use Rattle.table.specs.TableSheet.{TableSheet, table_answer}
use Rattle.state.specs.State.{last_turn, opened, slot_at, state_ok, pushed, shifted, acted_state}
use Rattle.state.specs.StateBytes.{state_bytes, decode_state, slot_bytes, encode_state, index_filled}
use Rattle.state.proofs.RoundTrip.{HasBytes, decode_encode}
use Rattle.state.proofs.Repeat.{repeat_bytes, length_filled}
use Rattle.state.specs.declared.state.State.{State}
use Rattle.controller.specs.Controller.{obey, next_action, act_with, open_answer, observe_answer, act_answer}
use Rattle.controller.specs.Accuracy.{Response, accepts, refuses, refuses_at, Call, observe, observe_all, act, acts, Progress, after_observing, after_acting, reply, call_step, run_calls}
use Rattle.controller.specs.declared.calls.TurnTaken.{TurnTaken}
use Rattle.controller.proofs.CallLaws.{usable}
use Rattle.packet.specs.Packet.{packet_reply}
use Rattle.packet.specs.Told.{told}
use Rattle.packet.proofs.PacketBytes.{index_decodes, packet_follows, packet_long}
use Rattle.capi.specs.Exported.{by_answer, number_for, written}
use Rattle.capi.specs.Controlled.{bytes_opened, action_after, call_number, response_number, bytes_after, run_bytes}

-- the next state of an accepted acting has bytes

module _ (t : List ℕ) (s : State) where
  turn_few : (x : TableSheet) → state_ok x s ≡ true → s.turn ≤ last_turn
  unfolding state_ok
  turn_few x e = leb-true s.turn last_turn (both_left _ _ e)

  acted_state_bytes : (d a : ℕ) → s.turn ≤ last_turn → HasBytes (acted_state d s a)
  unfolding pushed shifted tabulate
  acted_state_bytes d a few = record { short_turn = omega (arith, few); all_held = refl; all_slots = refl }

  obeyed_bytes : (x : TableSheet) (c : MaybeAction) (g : TurnTaken) → s.turn ≤ last_turn → obey x s c ≡ accepted g → HasBytes g.state
  unfolding obey
  obeyed_bytes x none g few e = absurd (refused_not_accepted e)
  obeyed_bytes x (some a) g few e = subst (λ (g : TurnTaken). HasBytes g.state) (accepted_same e) (acted_state_bytes x.delay a few)

  acted_bytes : (g : TurnTaken) → act_answer t s ≡ accepted g → HasBytes g.state
  unfolding act_answer act_with
  acted_bytes g e =
      let a = accepted_on (table_answer t) _ e in
      let b = check_accepted _ 20 _ a.2 in
      let c = check_accepted _ 15 _ b.1 in
      let d = check_accepted _ 13 _ c.1 in
      obeyed_bytes a.0 (next_action a.0 s) g (turn_few a.0 b.0) d.1

-- calls over bytes

-- what holds of the place before and of all that can be put there holds of it after
written_is : {A B : Type 0} (P : B → Type 0) (f : A → B) (a : Answer A) (b : B) → P b → ((x : A) → P (f x)) → P (written f a b)
unfolding by_answer
written_is P f (refused n) b p q = p
written_is P f (accepted x) b p q = q x

-- what observing leaves: the answer, and what its bytes decode to
observe_follows : (b : List ℕ) (f : State → List ℕ) (a : Answer State) → ((n : State) → a ≡ accepted n → decode_state (f n) ≡ n)
    → decode_state (written f a b) ≡ (after_observing (decode_state b) a).state
unfolding by_answer
observe_follows b f (refused n) h = refl
observe_follows b f (accepted n) h = h n refl

act_follows : (b : List ℕ) (a : Answer TurnTaken) → ((g : TurnTaken) → a ≡ accepted g → HasBytes g.state)
    → decode_state (written (λ g. encode_state g.state) a b) ≡ (after_acting (decode_state b) a).state
unfolding by_answer
act_follows b (refused n) f = refl
act_follows b (accepted g) f = decode_encode g.state (f g refl)

-- an accepted observation of any bytes of a state: filling its slot gives the observed state
filled_follows : (t b : List ℕ) (k p : ℕ) (n : State) → length b ≡ state_bytes → observe_answer t (decode_state b) k p ≡ accepted n
    → decode_state (index_filled b k p) ≡ n
unfolding observe_answer
filled_follows t b k p n long e =
    let a = accepted_on (table_answer t) _ e in
    index_decodes a.0 (usable t a.0 a.1).short_delay b long k p n a.2

-- for any bytes of a state: what a call leaves decodes to the state that the controller's call leaves
pub bytes_follow : (t b : List ℕ) (c : Call) → length b ≡ state_bytes → decode_state (bytes_after t b c) ≡ (reply t (decode_state b) c).state
bytes_follow t b (observe k p) long =
    observe_follows b _ (observe_answer t (decode_state b) k p) (λ n e. filled_follows t b k p n long e)
bytes_follow t b (observe_all os) long = packet_follows t b long os
bytes_follow t b act long = act_follows b (act_answer t (decode_state b)) (acted_bytes t (decode_state b))

-- and there are as many of them
pub bytes_long : (t b : List ℕ) (c : Call) → length b ≡ state_bytes → length (bytes_after t b c) ≡ state_bytes
unfolding encode_state slot_bytes
bytes_long t b (observe k p) long = written_is (λ (l : List ℕ). length l ≡ state_bytes) _ _ b long (λ s. length_filled b _ p ∙ long)
bytes_long t b (observe_all os) long = packet_long t b os ∙ long
bytes_long t b act long = written_is (λ (l : List ℕ). length l ≡ state_bytes) _ _ b long (λ a. refl)

opened_back : decode_state (encode_state opened) ≡ opened
opened_back = decode_encode opened (record { short_turn = omega arith; all_held = refl; all_slots = refl })

-- an accepted opening leaves bytes that decode to the opened state, and there are as many of them
pub open_follows : (t b : List ℕ) → open_answer t ≡ accepted opened → decode_state (bytes_opened t b) ≡ opened
unfolding by_answer
open_follows t b e = rw e opened_back

pub open_long : (t b : List ℕ) → length b ≡ state_bytes → length (bytes_opened t b) ≡ state_bytes
unfolding encode_state slot_bytes
open_long t b long = written_is (λ (l : List ℕ). length l ≡ state_bytes) encode_state (open_answer t) b long (λ s. refl)

-- a list of calls: the state that its bytes decode to is the one of the controller's list, call after call
pub calls_follow : (t b : List ℕ) (s : Progress) (calls : List Call) → length b ≡ state_bytes → decode_state b ≡ s.state
    → decode_state (run_bytes t b calls) ≡ (run_calls t s calls).state
unfolding run_bytes run_calls call_step
calls_follow t b s [] long e = e
calls_follow t b s (c ∷ later) long e =
    calls_follow t (bytes_after t b c) (call_step t s c) later (bytes_long t b c long)
    (bytes_follow t b c long ∙ ap (λ (s : State). (reply t s c).state) e)

-- document 01: "A repeat with the same position is accepted and changes nothing". Whatever an observation of an index that is known
-- already answers, all the bytes are as they were
pub repeat_nothing : (t b : List ℕ) (k p : ℕ) → (slot_at (decode_state b) (2 * (decode_state b).turn - k)).known ≡ true
    → bytes_after t b (observe k p) ≡ b
repeat_nothing t b k p known = written_is (λ (l : List ℕ). l ≡ b) _ _ b refl (λ s. repeat_bytes b _ p known)

-- what a C caller gets besides is the controller's response

observe_number : (s : State) (a : Answer State) → number_for a ≡ response_number (after_observing s a).response
unfolding by_answer
observe_number s (refused n) = refl
observe_number s (accepted n) = refl

act_number : (s : State) (a : Answer TurnTaken) → number_for a ≡ response_number (after_acting s a).response
unfolding by_answer
act_number s (refused n) = refl
act_number s (accepted g) = refl

told_number : (r : Response) → (told r).refusal ≡ response_number r
told_number accepts = refl
told_number (acts a) = refl
told_number (refuses n) = refl
told_number (refuses_at n place) = refl

pub numbers_follow : (t b : List ℕ) (c : Call) → call_number t b c ≡ response_number (reply t (decode_state b) c).response
numbers_follow t b (observe k p) = observe_number (decode_state b) (observe_answer t (decode_state b) k p)
numbers_follow t b (observe_all os) = told_number (packet_reply t b os).response
numbers_follow t b act = act_number (decode_state b) (act_answer t (decode_state b))

act_action : (s : State) (a : Answer TurnTaken) (c x : ℕ) → (after_acting s a).response ≡ acts c → written (λ g. g.action) a x ≡ c
unfolding by_answer
act_action s (refused n) c x e = let z : ◌≡◌ {A = ℕ} 0 1 = cc in absurd (omega arith)
act_action s (accepted g) c x e = cc

pub action_follows : (t b : List ℕ) (c x : ℕ) → (reply t (decode_state b) act).response ≡ acts c → action_after t b x ≡ c
action_follows t b c x e = act_action (decode_state b) (act_answer t (decode_state b)) c x e
