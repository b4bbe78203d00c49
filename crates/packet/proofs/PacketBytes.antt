-- The bytes of an accepted packet's state: what they decode to is the state after its records, and there are as many as before. Assumes
-- nothing.
use Prim.Native.Nat.{ℕ, suc, ◌-◌, ◌*◌, ◌≤◌, ◌<◌}
use mathlib.Core.Path.{◌≡◌, refl, ◌∙◌, ap, subst}
use mathlib.Core.Bool.{true}
use mathlib.Core.List.{List, [], ◌∷◌}
use native.Mathlib.Omega.{arith}
use lib.ListN.{length}
use Rattle.theory.specs.Answer.{Answer, refused, accepted}
use Rattle.theory.proofs.Answer.{check_accepted, accepted_on, accepted_same}
use Rattle.sheet.specs.Limits.{most_delay}
use Rattle.table.specs.TableSheet.{TableSheet, table_answer}
use Rattle.state.specs.State.{slots, state_ok}
use Rattle.state.specs.StateBytes.{state_bytes, decode_state, index_filled}
use Rattle.state.specs.declared.state.State.{State}
use Rattle.state.proofs.Repeat.{decode_filled, length_filled}
use Rattle.controller.specs.Controller.{Heard, heard_all, refused_at, on_heard, observe_with, observe_each, packet_answer}
use Rattle.controller.specs.Accuracy.{Response, accepts, acts, refuses, refuses_at, observe_all, reply, after_each, after_packet}
use Rattle.controller.specs.declared.calls.Observation.{Observation}
use Rattle.controller.proofs.AnswerLaws.{observe_with_accepted}
use Rattle.controller.proofs.CallLaws.{usable}
use Rattle.packet.specs.Packet.{all_filled, bytes_by, packet_reply}

-- there are as many bytes as before

pub all_long : (b : List ℕ) (os : List Observation) → length (all_filled b os) ≡ length b
unfolding all_filled
all_long b [] = refl
all_long b (o ∷ later) = all_long (index_filled b o.index o.position) later ∙ length_filled b _ o.position

-- all records are accepted: the first is, and so are the others
pub on_heard_lem : (place : ℕ) (a : Answer State) (rest : State → Heard) (end : State) → on_heard place a rest ≡ heard_all end
    → (next : State) × (a ≡ accepted next) × (rest next ≡ heard_all end)
unfolding on_heard
on_heard_lem place (refused n) rest end e = let z : ◌≡◌ {A = ℕ} 0 1 = cc in absurd (omega arith)
on_heard_lem place (accepted next) rest end e = (next, refl, e)

module _ (x : TableSheet) (short : x.delay ≤ most_delay) where
  -- an accepted report: filling its slot gives the observed state
  pub index_decodes : (b : List ℕ) → length b ≡ state_bytes → (k p : ℕ) (n : State) → observe_with x (decode_state b) k p ≡ accepted n
      → decode_state (index_filled b k p) ≡ n
  index_decodes b long k p n e =
      let o = observe_with_accepted x (decode_state b) k p n e in
      let slot : 2 * (decode_state b).turn - k < slots = omega (arith, o.0.not_old) in
      decode_filled b (2 * (decode_state b).turn - k) p long slot o.0.same ∙ o.1

  pub each_decodes : (b : List ℕ) → length b ≡ state_bytes → (place : ℕ) (os : List Observation) (end : State)
      → observe_each x (decode_state b) place os ≡ heard_all end → decode_state (all_filled b os) ≡ end
  unfolding observe_each all_filled
  each_decodes b long place [] end e = cc
  each_decodes b long place (o ∷ later) end e =
      let (next, is, rest) = on_heard_lem place (observe_with x (decode_state b) o.index o.position) _ end e in
      each_decodes (index_filled b o.index o.position) (length_filled b _ o.position ∙ long) (suc place) later end
      (ap (λ s. observe_each x s (suc place) later) (index_decodes b long o.index o.position next is) ∙ rest)

-- what an accepted packet has passed before its records
pub packet_passed : (t : List ℕ) (s : State) (n : ℕ) (x : TableSheet) → packet_answer t s n ≡ accepted x
    → (table_answer t ≡ accepted x) × (x.delay ≤ most_delay) × (state_ok x s ≡ true)
unfolding packet_answer
packet_passed t s n x e =
    let a = accepted_on (table_answer t) _ e in
    let (good, rest) = check_accepted _ 20 _ a.2 in
    let same : a.0 ≡ x = accepted_same (check_accepted _ 22 _ rest).1 in
    let reads = a.1 ∙ ap accepted same in
    (reads, (usable t x reads).short_delay, subst (λ x. state_ok x s ≡ true) same good)

-- by what hearing all records comes to
heard_follows : (b : List ℕ) (os : List Observation) (h : Heard) → ((end : State) → h ≡ heard_all end → decode_state (all_filled b os) ≡ end)
    → decode_state (bytes_by (after_each (decode_state b) h).response (all_filled b os) b) ≡ (after_each (decode_state b) h).state
heard_follows b os (heard_all end) f = f end refl
heard_follows b os (refused_at n place) f = refl

reply_follows : (t b : List ℕ) → length b ≡ state_bytes → (os : List Observation) (a : Answer TableSheet)
    → packet_answer t (decode_state b) (length os) ≡ a
    → decode_state (bytes_by (after_packet (decode_state b) os a).response (all_filled b os) b) ≡ (after_packet (decode_state b) os a).state
reply_follows t b long os (refused n) e = refl
reply_follows t b long os (accepted x) e =
    heard_follows b os (observe_each x (decode_state b) 0 os)
    (λ end q. each_decodes x (packet_passed t (decode_state b) (length os) x e).1 b long 0 os end q)

-- for any bytes of a state: those after a packet decode to the state that the controller's call leaves
pub packet_follows : (t b : List ℕ) → length b ≡ state_bytes → (os : List Observation)
    → decode_state (packet_reply t b os).bytes ≡ (reply t (decode_state b) (observe_all os)).state
packet_follows t b long os = reply_follows t b long os (packet_answer t (decode_state b) (length os)) refl

-- and there are as many of them
by_long : (r : Response) (b : List ℕ) (os : List Observation) → length (bytes_by r (all_filled b os) b) ≡ length b
by_long accepts b os = all_long b os
by_long (acts a) b os = refl
by_long (refuses n) b os = refl
by_long (refuses_at n place) b os = refl

pub packet_long : (t b : List ℕ) (os : List Observation) → length (packet_reply t b os).bytes ≡ length b
packet_long t b os = by_long (packet_reply t b os).response b os
