-- W-204 over bytes (specs/Packets.antt). Assumes nothing.
use Prim.Native.Nat.{ℕ, ◌≤◌, ◌<◌}
use mathlib.Core.Path.{◌≡◌, refl, sym, ◌∙◌, ap, ap₂}
use mathlib.Core.Bool.{true}
use mathlib.Core.Logic.{◌↔◌}
use mathlib.Core.List.{List, [], ◌∷◌, Permᴰ}
use native.Mathlib.Omega.{arith}
use lib.ListN.{length, length-append}
use Rattle.theory.specs.Answer.{accepted, on_accepted}
use Rattle.theory.proofs.Answer.{check_passed}
use Rattle.table.specs.TableSheet.{TableSheet, table_answer}
use Rattle.state.specs.State.{state_ok}
use Rattle.state.specs.StateBytes.{state_bytes, decode_state, index_filled}
use Rattle.state.specs.declared.state.State.{State}
use Rattle.controller.specs.Controller.{observe_with, observe_answer, packet_answer}
use Rattle.controller.specs.Accuracy.{Response, accepts, acts, refuses, refuses_at}
use Rattle.controller.specs.declared.calls.Observation.{Observation}
use Rattle.packet.specs.Packet.{all_filled, bytes_by, packet_reply}
use Rattle.packet.proofs.PacketBytes.{each_decodes, packet_passed}
use Rattle.packet.proofs.Rearranged.{EachAccepted, heard_each, each_rearranged, rearranged_length, reply_refused, reply_each, each_reply}
use Rattle.claims.specs.Packets.{Singly, FirstRefused}

-- a sheet that says x

module _ (t : List ℕ) (x : TableSheet) (reads : table_answer t ≡ accepted x) where
  observe_read : (s : State) (k p : ℕ) → observe_answer t s k p ≡ observe_with x s k p
  unfolding observe_answer on_accepted
  observe_read s k p = rw reads

  singly_each : (b : List ℕ) (os : List Observation) (c : List ℕ) → Singly t b os c ≡ EachAccepted x b os c
  unfolding Singly EachAccepted
  singly_each b [] c = refl
  singly_each b (o ∷ later) c =
      ap₂ (λ (A B : Type 0). A × B)
      (ap (λ a. (s : State) × (a ≡ accepted s)) (observe_read (decode_state b) o.index o.position))
      (singly_each (index_filled b o.index o.position) later c)

module _ (t b : List ℕ) (long : length b ≡ state_bytes) where
  -- "where 10 to 12, 20 and 22 don't refuse it, accepts it exactly if hearing them singly, first to last, would accept each; the state is then
  -- the same as after those"
  pub packet_accepted : (os : List Observation) (c : List ℕ)
      → (packet_reply t b os ≡ record { response = accepts; bytes = c })
      ↔ ((x : TableSheet) × (packet_answer t (decode_state b) (length os) ≡ accepted x) × Singly t b os c)
  packet_accepted os c = (
    λ e.
        let (x, is, each) = reply_each t b os long c e in
        let reads = (packet_passed t (decode_state b) (length os) x is).0 in
        (x, is, rw (singly_each t x reads b os c) each),
    λ (x, is, singly).
        let reads = (packet_passed t (decode_state b) (length os) x is).0 in
        each_reply t b os long c x is (rw (singly_each t x reads b os c) at singly),
  )

  -- "Any rearrangement of an accepted list is accepted and gives the same state": the same bytes
  pub rearranged : (os qs : List Observation) → Permᴰ os qs → (packet_reply t b os).response ≡ accepts → packet_reply t b qs ≡ packet_reply t b os
  rearranged os qs d e =
      let c : List ℕ = (packet_reply t b os).bytes in
      let whole : packet_reply t b os ≡ record { response = accepts; bytes = c } = λ i. record { response = e i; bytes = c } in
      let (x, is, each) = reply_each t b os long c whole in
      let short = (packet_passed t (decode_state b) (length os) x is).1 in
      each_reply t b qs long c x (ap (packet_answer t (decode_state b)) (sym (rearranged_length d)) ∙ is) (each_rearranged x short d b long c each)
      ∙ sym whole

  -- "Otherwise .. the answer gives the first refusal and .. its place in the list, from 0"
  pub packet_refused : (os : List Observation) (n k : ℕ) → (packet_reply t b os).response ≡ refuses_at n k → FirstRefused t b os n k
  packet_refused os n k e =
      let (x, is, r) = reply_refused t b os n k e in
      let passed = packet_passed t (decode_state b) (length os) x is in
      let left = each_decodes x passed.1 b long 0 r.before r.left r.heard in
      record {
        before = r.before;
        here = r.here;
        later = r.later;
        listed = r.listed;
        place = omega (arith, r.counted);
        left = all_filled b r.before;
        heard =
            rw (singly_each t x passed.0 b r.before (all_filled b r.before))
            (heard_each x passed.1 b long 0 r.before r.left r.heard);
        refusal =
            observe_read t x passed.0 _ r.here.index r.here.position
            ∙ ap (λ s. observe_with x s r.here.index r.here.position) left
            ∙ r.refusal;
      }

-- "for 16 to 19 only": an answer with a place has one of these numbers, and the place is a record's
pub packet_place : (t b : List ℕ) (os : List Observation) (n k : ℕ) → (packet_reply t b os).response ≡ refuses_at n k
    → (16 ≤ n) × (n ≤ 19) × (k < length os)
packet_place t b os n k e =
    let r = (reply_refused t b os n k e).2 in
    (r.number.0, r.number.1, omega (arith, r.counted, simp length-append at (ap length r.listed)))

-- "An empty list is accepted where 10 to 12 and 20 don't refuse it"
pub empty_accepted : (t b : List ℕ) → length b ≡ state_bytes → (x : TableSheet) → table_answer t ≡ accepted x → state_ok x (decode_state b) ≡ true
    → packet_reply t b [] ≡ record { response = accepts; bytes = b }
unfolding Singly packet_answer on_accepted
empty_accepted t b long x reads good =
    (packet_accepted t b long [] b).1 (x, rw reads (check_passed _ 20 _ good ∙ check_passed _ 22 _ refl), refl)

unheard_by : (r : Response) (filled b : List ℕ) → (r ≡ accepts → ⊥) → bytes_by r filled b ≡ b
unheard_by accepts filled b h = absurd (h refl)
unheard_by (acts a) filled b h = refl
unheard_by (refuses n) filled b h = refl
unheard_by (refuses_at n k) filled b h = refl

-- "Otherwise nothing is heard"
pub packet_unheard : (t b : List ℕ) (os : List Observation) → ((packet_reply t b os).response ≡ accepts → ⊥) → (packet_reply t b os).bytes ≡ b
packet_unheard t b os h = unheard_by (packet_reply t b os).response (all_filled b os) b h
