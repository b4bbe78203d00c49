-- The walk over a packet's records, as the code of src/hearing.rt does it: step by step, and what it comes to. Assumes nothing.
use Prim.Native.Nat.{ℕ, suc, ◌+◌, ◌*◌, ◌≤◌, ◌<◌}
use mathlib.Core.Path.{◌≡◌, refl, sym, ◌∙◌, ap, subst}
use mathlib.Core.Bool.{Bool, true, false}
use mathlib.Core.List.{List, [], ◌∷◌}
use native.Mathlib.Numerals.{add-one}
use lib.Dec.{leb}
use lib.ListN.{length, get_or, drop, drop_of_length-le}
use lib.Seq.{drop-cons}
use borrow.Author.Tests.{le-leb, lt-leb}
use Rattle.std.specs.Prelude.{Result, Ok, Err}
use Rattle.std.specs.Result.{MatchResult, IsErrAnd}
use Rattle.std.proofs.lemmas.Result.{err_from_is_err_and}
use Rattle.theory.specs.Answer.{Answer, refused, accepted, check, on_accepted}
use Rattle.theory.proofs.Answer.{accepted_same, check_passed, check_failed, check_accepted, accepted_on}
use Rattle.sheet.specs.Limits.{most_delay}
use Rattle.sheet.specs.Form.{part_at}
use Rattle.sheet.specs.Refusals.{answer_by}
use Rattle.sheet.specs.declared.refusal.Refusal.{Refusal}
use Rattle.table.specs.TableSheet.{TableSheet, says, table_at, table_answer}
use Rattle.table.specs.declared.reading.TableLayout.{TableLayout}
use Rattle.state.specs.State.{slot_at, agrees, state_ok, observed}
use Rattle.state.specs.StateBytes.{state_bytes, decode_state, slot_filled, index_filled}
use Rattle.state.specs.declared.state.State.{State}
use Rattle.state.proofs.Repeat.{length_filled}
use Rattle.controller.specs.Controller.{Heard, heard_all, refused_at, on_heard, observe_with, observe_each, most_observations, packet_answer}
use Rattle.controller.specs.Accuracy.{accepts, refuses_at, after_each, after_packet}
use Rattle.controller.specs.code.Ages.{age_with}
use Rattle.controller.specs.declared.calls.Observation.{Observation}
use Rattle.controller.proofs.AnswerLaws.{observe_aged, age_accepted, observe_with_accepted}
use Rattle.controller.proofs.CallLaws.{state_any, readable}
use Rattle.packet.specs.Packet.{PacketReply, all_filled, bytes_by, packet_reply}
use Rattle.packet.specs.code.Walked.{hear_in, walk_on, walked_by}
use Rattle.packet.proofs.PacketBytes.{index_decodes, packet_passed}
use Rattle.packet.proofs.Rearranged.{observed_good}

-- before any record; y is the reading of the sheet t, z the state's bytes, m the number of records

module _ (t : List ℕ) (y : Result TableLayout Refusal) (ey : answer_by (table_at t) y ≡ table_answer t) (l : TableLayout) (el : y ≡ Ok l) (s : State) (z : List ℕ)
    (es : s ≡ decode_state z) (b : Bool) (eb : b ≡ state_ok (says l [] []) s) (m : ℕ) where
  same_state : b ≡ state_ok (table_at t l) (decode_state z)
  same_state = eb ∙ state_any l (part_at t l.flags) (part_at t l.masks) s ∙ ap (state_ok (table_at t l)) es

  read_is : check (state_ok (table_at t l) (decode_state z)) 20 (check (leb m most_observations) 22 (accepted (table_at t l))) ≡ packet_answer t (decode_state z) m
  unfolding packet_answer on_accepted
  read_is = rw (readable t y ey l el) refl

  pub refused_20 : b ≡ false → refused 20 ≡ packet_answer t (decode_state z) m
  refused_20 g = sym (check_failed _ 20 _ (sym same_state ∙ g)) ∙ read_is

  pub refused_22 : b ≡ true → most_observations < m → refused 22 ≡ packet_answer t (decode_state z) m
  refused_22 g h = sym (check_passed _ 20 _ (sym same_state ∙ g) ∙ check_failed _ 22 _ (lt-leb m most_observations h)) ∙ read_is

  pub read_for_is : b ≡ true → m ≤ most_observations → accepted (table_at t l) ≡ packet_answer t (decode_state z) m
  read_for_is g h = sym (check_passed _ 20 _ (sym same_state ∙ g) ∙ check_passed _ 22 _ (le-leb m most_observations h)) ∙ read_is

-- what the walk comes to

abbrev heard_reply : List ℕ → List ℕ → List Observation → Heard → PacketReply
heard_reply before b os (heard_all s) = record { response = accepts; bytes = all_filled b os }
heard_reply before b os (refused_at n place) = record { response = refuses_at n place; bytes = before }

reply_more : (before b : List ℕ) (o : Observation) (later : List Observation) (h : Heard)
    → heard_reply before (index_filled b o.index o.position) later h ≡ heard_reply before b (o ∷ later) h
unfolding all_filled
reply_more before b o later (heard_all s) = refl
reply_more before b o later (refused_at n place) = refl

-- on a state that is one, a record is heard as it would be singly
module _ (x : TableSheet) (b : List ℕ) (o : Observation) (good : state_ok x (decode_state b) ≡ true) where
  abbrev next : State
  next = observed (decode_state b) o.index o.position

  after_checks : (c : Bool) (f : List ℕ) (n : State) → on_accepted (check c 19 (accepted f)) (λ f. accepted n) ≡ check c 19 (accepted n)
  unfolding check on_accepted
  after_checks true f n = refl
  after_checks false f n = refl

  after_ages : (a : Answer ℕ) (n : State) (c : ℕ → Bool) (f : ℕ → List ℕ)
      → on_accepted (on_accepted a (λ age. check (c age) 19 (accepted (f age)))) (λ f. accepted n) ≡ on_accepted a (λ age. check (c age) 19 (accepted n))
  unfolding on_accepted
  after_ages (refused m) n c f = refl
  after_ages (accepted age) n c f = after_checks (c age) (f age) n

  as_single : on_accepted (hear_in x.highest x.delay b o) (λ f. accepted next) ≡ observe_with x (decode_state b) o.index o.position
  unfolding hear_in
  as_single =
      after_ages (age_with x.highest x.delay (2 * (decode_state b).turn) o.index o.position) next
      (λ age. agrees (slot_at (decode_state b) age) o.position)
      (λ age. slot_filled b age o.position)
      ∙ sym (observe_aged x (decode_state b) o.index o.position good)

  -- the slot is that of its index
  hear_filled : (f : List ℕ) → hear_in x.highest x.delay b o ≡ accepted f → f ≡ index_filled b o.index o.position
  unfolding hear_in
  hear_filled f e =
      let a = accepted_on (age_with x.highest x.delay (2 * (decode_state b).turn) o.index o.position) _ e in
      let q : slot_filled b a.0 o.position ≡ f = accepted_same (check_accepted _ 19 _ a.2).1 in
      sym q ∙ ap (λ age. slot_filled b age o.position) (age_accepted x.highest x.delay (2 * (decode_state b).turn) o.index o.position a.0 a.1).0

module _ (x : TableSheet) (short : x.delay ≤ most_delay) (before : List ℕ) where
  abbrev HeardEach : List ℕ → ℕ → List Observation → Type 0
  HeardEach b place os = walked_by x.highest x.delay before b place os ≡ heard_reply before b os (observe_each x (decode_state b) place os)

  walked_first : (b : List ℕ) → length b ≡ state_bytes → state_ok x (decode_state b) ≡ true → (place : ℕ) (o : Observation) (later : List Observation)
      (a : Answer (List ℕ)) → hear_in x.highest x.delay b o ≡ a
      → (state_ok x (decode_state (index_filled b o.index o.position)) ≡ true → HeardEach (index_filled b o.index o.position) (suc place) later)
      → walk_on before place a (λ b. walked_by x.highest x.delay before b (suc place) later)
      ≡ heard_reply before b (o ∷ later) (on_heard place (on_accepted a (λ f. accepted (observed (decode_state b) o.index o.position))) (λ next. observe_each x next (suc place) later))
  unfolding walk_on on_heard on_accepted
  walked_first b long good place o later (refused n) e rest = refl
  walked_first b long good place o later (accepted f) e rest =
      let n = next x b o good in
      let is : observe_with x (decode_state b) o.index o.position ≡ accepted n =
      sym (as_single x b o good) ∙ ap (λ a. on_accepted a (λ f. accepted n)) e in
      let low = (observe_with_accepted x (decode_state b) o.index o.position n is).0.low in
      let after = index_decodes x short b long o.index o.position n is in
      ap (λ b. walked_by x.highest x.delay before b (suc place) later) (hear_filled x b o good f e)
      ∙ rest (ap (state_ok x) after ∙ observed_good x (decode_state b) o.index o.position low good)
      ∙ ap (λ s. heard_reply before (index_filled b o.index o.position) later (observe_each x s (suc place) later)) after
      ∙ reply_more before b o later (observe_each x n (suc place) later)

  walked_each : (b : List ℕ) → length b ≡ state_bytes → state_ok x (decode_state b) ≡ true → (place : ℕ) (os : List Observation) → HeardEach b place os
  unfolding walked_by observe_each all_filled
  walked_each b long good place [] = refl
  walked_each b long good place (o ∷ later) =
      walked_first b long good place o later (hear_in x.highest x.delay b o) refl
      (λ still. walked_each (index_filled b o.index o.position) (length_filled b _ o.position ∙ long) still (suc place) later)
      ∙ ap (λ a. heard_reply before b (o ∷ later) (on_heard place a (λ next. observe_each x next (suc place) later))) (as_single x b o good)

heard_whole : (s : State) (b : List ℕ) (os : List Observation) (h : Heard)
    → heard_reply b b os h ≡ record { response = (after_each s h).response; bytes = bytes_by (after_each s h).response (all_filled b os) b }
heard_whole s b os (heard_all end) = refl
heard_whole s b os (refused_at n place) = refl

abbrev reply_by : List ℕ → List Observation → Answer TableSheet → PacketReply
reply_by b os a =
    record {
      response = (after_packet (decode_state b) os a).response;
      bytes = bytes_by (after_packet (decode_state b) os a).response (all_filled b os) b;
    }

module _ (t b : List ℕ) (os : List Observation) where
  -- one whose records are walked
  pub packet_whole : (l : TableLayout) → length b ≡ state_bytes → accepted (table_at t l) ≡ packet_answer t (decode_state b) (length os)
      → walked_by l.highest l.delay b b 0 os ≡ packet_reply t b os
  packet_whole l long e =
      let x = table_at t l in
      let passed = packet_passed t (decode_state b) (length os) x (sym e) in
      walked_each x passed.1 b b long passed.2 0 os
      ∙ heard_whole (decode_state b) b os (observe_each x (decode_state b) 0 os)
      ∙ ap (reply_by b os) e

-- one turn of the loop, and its end: what is left gives the whole; o is the record at place k

pub left_done : (highest d : ℕ) (before b : List ℕ) (os : List Observation) (k : ℕ) → length os ≤ k
    → record { response = accepts; bytes = b } ≡ walked_by highest d before b k (drop k os)
unfolding walked_by
left_done highest d before b os k h = ap (walked_by highest d before b k) (sym (drop_of_length-le os {i = k} h))

module _ (highest d : ℕ) (before b : List ℕ) (os : List Observation) (k : ℕ) (none : Observation) where
  left_first : k < length os → walked_by highest d before b k (drop k os)
      ≡ walk_on before k (hear_in highest d b (get_or os k none)) (λ b. walked_by highest d before b (suc k) (drop (suc k) os))
  unfolding walked_by
  left_first h = ap (walked_by highest d before b k) (drop-cons os k none h)

  pub left_next : (next : List ℕ) → k < length os → accepted next ≡ hear_in highest d b (get_or os k none)
      → walked_by highest d before next (k + 1) (drop (k + 1) os) ≡ walked_by highest d before b k (drop k os)
  unfolding walk_on
  left_next next h e =
      ap (λ m. walked_by highest d before next m (drop m os)) (add-one k)
      ∙ ap (λ a. walk_on before k a (λ b. walked_by highest d before b (suc k) (drop (suc k) os))) e
      ∙ sym (left_first h)

  pub left_refused : (n : ℕ) → k < length os → refused n ≡ hear_in highest d b (get_or os k none)
      → record { response = refuses_at n k; bytes = before } ≡ walked_by highest d before b k (drop k os)
  unfolding walk_on
  left_refused n h e =
      ap (λ a. walk_on before k a (λ b. walked_by highest d before b (suc k) (drop (suc k) os))) e ∙ sym (left_first h)

-- what `map_err` was given, by what it gives

module _ {A E D : Type 0} (Q : E → D → Type 0) (r : Result A E) (m : Result A D)
    (cases : MatchResult r (λ x. m ≡ Ok x) (λ e. IsErrAnd m (Q e))) where
  pub mapped_ok : (x : A) → m ≡ Ok x → r ≡ Ok x
  mapped_ok x q = of r cases
    where
      of : (r : Result A E) → MatchResult r (λ x. m ≡ Ok x) (λ e. IsErrAnd m (Q e)) → r ≡ Ok x
      of (Ok y) c = cc
      of (Err e) c = let p = err_from_is_err_and m c in let z : m ≡ Err p.0 = p.1 in cc

  pub mapped_err : (d : D) → m ≡ Err d → (e : E) × (r ≡ Err e) × Q e d
  mapped_err d q = of r cases
    where
      of : (r : Result A E) → MatchResult r (λ x. m ≡ Ok x) (λ e. IsErrAnd m (Q e)) → (e : E) × (r ≡ Err e) × Q e d
      of (Ok y) c = let z : m ≡ Ok y = c in absurd (cc)
      of (Err e) c =
          let p = err_from_is_err_and m c in
          let z : m ≡ Err p.0 = p.1 in
          let same : p.0 ≡ d = cc in
          (e, refl, subst (Q e) same p.2)

-- as the code asks them
pub ruleset read_laws = (refused_20, refused_22, read_for_is)

pub ruleset walk_laws = (packet_whole, left_next, left_refused, left_done, mapped_ok, mapped_err)
