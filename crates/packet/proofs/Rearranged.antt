-- Laws of hearing several records: which packets are accepted, where one is refused, and that the order of an accepted one does not matter.
-- x is what the table sheet says, b the state's bytes. Assumes nothing.
use Prim.Native.Nat.{ℕ, zero, suc, ◌+◌, ◌-◌, ◌*◌, ◌≤◌, ◌<◌}
use mathlib.Core.Path.{◌≡◌, refl, sym, ◌∙◌, ap, subst, subst₂}
use mathlib.Core.Bool.{Bool, true, false}
use mathlib.Core.Logic.{⊎_elim}
use mathlib.Core.List.{List, [], ◌∷◌, ◌++◌, Permᴰ}
use native.Mathlib.Omega.{arith}
use borrow.Author.Tests.{le-leb, eqb-true}
use lib.ListN.{length, set}
use lib.Seq.{get_or-set_same, get_or-set_other, set_comm}
use Rattle.theory.specs.Fold.{either}
use Rattle.theory.specs.Answer.{Answer, refused, accepted, check}
use Rattle.theory.proofs.Fold.{bool, same?, both_true, both_left, both_right, all_at, all_below_lem, length_tabulate}
use Rattle.theory.proofs.Answer.{refused_not_accepted, check_passed}
use Rattle.sheet.specs.Limits.{most_delay}
use Rattle.table.specs.TableSheet.{TableSheet}
use Rattle.state.specs.State.{slots, unknown, seen, slot_at, agrees, within_at, held_ok, window_ok, state_ok, observed}
use Rattle.state.specs.StateBytes.{state_bytes, known_at, position_at, slot_in, window_in, decode_state, slot_filled, index_filled}
use Rattle.state.specs.declared.state.Slot.{Slot}
use Rattle.state.specs.declared.state.State.{State}
use Rattle.state.proofs.Repeat.{anew, slot_kept, filled_left, filled_anew, length_filled}
use Rattle.controller.specs.Controller.{Heard, heard_all, refused_at, on_heard, observe_with, observe_each, packet_answer}
use Rattle.controller.specs.Accuracy.{accepts, refuses_at, observe_all, reply, after_each, after_packet}
use Rattle.controller.specs.declared.calls.Observation.{Observation}
use Rattle.controller.proofs.AnswerLaws.{observe_accepts, Observable, observe_with_accepted}
use Rattle.packet.specs.Packet.{all_filled, bytes_by, PacketReply, packet_reply}
use Rattle.packet.proofs.PacketBytes.{on_heard_lem, index_decodes, packet_passed}

-- refusal 20 does not come in between: a good state is good once a record was observed

within_set : (highest : ℕ) (window : List Slot) (i p k : ℕ) → p ≤ highest → within_at highest window k ≡ true
    → within_at highest (set window i (seen p)) k ≡ true
unfolding within_at either
within_set highest [] i p k h e = e
within_set highest (w ∷ ws) zero p zero h e = le-leb p highest h
within_set highest (w ∷ ws) zero p (suc k) h e = e
within_set highest (w ∷ ws) (suc i) p zero h e = e
within_set highest (w ∷ ws) (suc i) p (suc k) h e = within_set highest ws i p k h e

pub observed_good : (x : TableSheet) (s : State) (k p : ℕ) → p ≤ x.highest → state_ok x s ≡ true → state_ok x (observed s k p) ≡ true
unfolding state_ok held_ok window_ok
observed_good x s k p h e =
    let r = both_right _ _ e in
    both_true _ _ (both_left _ _ e)
    (both_true _ _ (both_left _ _ r)
    (all_below_lem _ _ (λ j l. within_set x.highest s.window (2 * s.turn - k) p j h (all_at _ _ (both_right _ _ r) j l))))

-- so a record is refused with 16 to 19 only

checked : (b : Bool) (m : ℕ) (rest : Answer State) (n : ℕ) → (16 ≤ m) × (m ≤ 19) → (rest ≡ refused n → (16 ≤ n) × (n ≤ 19))
    → check b m rest ≡ refused n → (16 ≤ n) × (n ≤ 19)
unfolding check
checked true m rest n h f e = f e
checked false m rest n h f e = let q : m ≡ n = cc in omega arith

record_number : (x : TableSheet) (s : State) (k p n : ℕ) → state_ok x s ≡ true → observe_with x s k p ≡ refused n → (16 ≤ n) × (n ≤ 19)
unfolding observe_with
record_number x s k p n good e =
    checked _ 16 _ n (omega arith)
    (checked _ 17 _ n (omega arith)
    (checked _ 18 _ n (omega arith) (checked _ 19 _ n (omega arith) (λ a. absurd (refused_not_accepted (sym a))))))
    (sym (check_passed _ 20 _ good) ∙ e)

-- of records from a place on, the first that is refused stands at place k, and is refused with n
pub record FirstRefusal (x : TableSheet) (s : State) (place : ℕ) (os : List Observation) (n k : ℕ) : Type 0 where
  pub before : List Observation
  pub here : Observation
  pub later : List Observation
  pub listed : before ++ (here ∷ later) ≡ os
  pub counted : place + length before ≡ k
  pub left : State
  pub heard : observe_each x s place before ≡ heard_all left
  pub refusal : observe_with x left here.index here.position ≡ refused n
  pub number : (16 ≤ n) × (n ≤ 19)

module _ (x : TableSheet) where
  -- by the first record's answer
  first_refused : (s : State) → state_ok x s ≡ true → (place : ℕ) (o : Observation) (later : List Observation) (n k : ℕ) (a : Answer State)
      → observe_with x s o.index o.position ≡ a → on_heard place a (λ next. observe_each x next (suc place) later) ≡ refused_at n k
      → ((next : State) → state_ok x next ≡ true → observe_each x next (suc place) later ≡ refused_at n k
      → FirstRefusal x next (suc place) later n k)
      → FirstRefusal x s place (o ∷ later) n k
  unfolding on_heard observe_each
  first_refused s good place o later n k (refused m) is e rest =
      let q : m ≡ n = cc in
      let r : place ≡ k = cc in
      let no_more = is ∙ ap refused q in
      record {
        before = [];
        here = o;
        later = later;
        listed = refl;
        counted = omega arith;
        left = s;
        heard = refl;
        refusal = no_more;
        number = record_number x s o.index o.position n good no_more;
      }
  first_refused s good place o later n k (accepted next) is e rest =
      let (passed, same) = observe_with_accepted x s o.index o.position next is in
      let still = subst (λ s. state_ok x s ≡ true) same (observed_good x s o.index o.position passed.low good) in
      let r = rest next still e in
      record {
        before = o ∷ r.before;
        here = r.here;
        later = r.later;
        listed = ap (λ l. o ∷ l) r.listed;
        counted = omega (arith, r.counted);
        left = r.left;
        heard = ap (λ a. on_heard place a (λ next. observe_each x next (suc place) r.before)) is ∙ r.heard;
        refusal = r.refusal;
        number = r.number;
      }

  refused_each : (s : State) → state_ok x s ≡ true → (place : ℕ) (os : List Observation) (n k : ℕ)
      → observe_each x s place os ≡ refused_at n k → FirstRefusal x s place os n k
  unfolding observe_each
  refused_each s good place [] n k e = let z : ◌≡◌ {A = ℕ} 0 1 = cc in absurd (omega arith)
  refused_each s good place (o ∷ later) n k e =
      first_refused s good place o later n k (observe_with x s o.index o.position) refl e
      (λ next still q. refused_each next still (suc place) later n k q)

-- two slots can be filled in either order

known_kept : (b : List ℕ) (i p j : ℕ) → i < slots → (j ≡ i → ⊥) → (slot_in (slot_filled b i p) j).known ≡ (slot_in b j).known
known_kept b i p j h apart =
    ap (λ (v : Slot). v.known)
    (⊎_elim
    (λ (e : (slot_in b i).known ≡ true). ap (λ b. slot_in b j) (filled_left b i p e))
    (λ (e : (slot_in b i).known ≡ false). ap (λ b. slot_in b j) (filled_anew b i p h e) ∙ slot_kept b i p j apart)
    (bool (slot_in b i).known))

-- the first is known already
known_swaps : (b : List ℕ) (i p j q : ℕ) → j < slots → (i ≡ j → ⊥) → (slot_in b i).known ≡ true
    → slot_filled (slot_filled b i p) j q ≡ slot_filled (slot_filled b j q) i p
known_swaps b i p j q h apart e =
    ap (λ b. slot_filled b j q) (filled_left b i p e) ∙ sym (filled_left (slot_filled b j q) i p (known_kept b j q i h apart ∙ e))

anew_swaps : (b : List ℕ) (i p j q : ℕ) → (i ≡ j → ⊥) → anew (anew b i p) j q ≡ anew (anew b j q) i p
anew_swaps b i p j q apart =
    ap (λ b. set b (position_at j) q) (set_comm (set b (known_at i) 1) (position_at i) (known_at j) p 1 (λ e. omega arith))
    ∙ set_comm (set (set b (known_at i) 1) (known_at j) 1) (position_at i) (position_at j) p q (λ e. apart (omega arith))
    ∙ ap (λ b. set (set b (position_at j) q) (position_at i) p) (set_comm b (known_at i) (known_at j) 1 1 (λ e. apart (omega arith)))
    ∙ ap (λ b. set b (position_at i) p) (set_comm (set b (known_at j) 1) (known_at i) (position_at j) 1 q (λ e. omega arith))

slots_swap : (b : List ℕ) (i p j q : ℕ) → i < slots → j < slots → (i ≡ j → ⊥)
    → slot_filled (slot_filled b i p) j q ≡ slot_filled (slot_filled b j q) i p
slots_swap b i p j q hi hj apart =
    let apart' : j ≡ i → ⊥ = λ e. apart (sym e) in
    ⊎_elim
    (λ (e : (slot_in b i).known ≡ true). known_swaps b i p j q hj apart e)
    (λ (e : (slot_in b i).known ≡ false).
    ⊎_elim
    (λ (f : (slot_in b j).known ≡ true). sym (known_swaps b j q i p hi apart' f))
    (λ (f : (slot_in b j).known ≡ false).
    filled_anew (slot_filled b i p) j q hj (known_kept b i p j hi apart' ∙ f)
    ∙ ap (λ b. anew b j q) (filled_anew b i p hi e)
    ∙ anew_swaps b i p j q apart
    ∙ sym
    (filled_anew (slot_filled b j q) i p hi (known_kept b j q i hj apart ∙ e) ∙ ap (λ b. anew b i p) (filled_anew b j q hj f)))
    (bool (slot_in b j).known))
    (bool (slot_in b i).known)

-- two records, o before u, on a state

window_full : (b : List ℕ) → length (decode_state b).window ≡ slots
unfolding decode_state window_in
window_full b = length_tabulate (slot_in b) 0 slots

abbrev slot_of : State → Observation → ℕ
slot_of s o = 2 * s.turn - o.index

-- the state once a record was observed
abbrev noted : State → Observation → State
noted s o = observed s o.index o.position

abbrev Passes : TableSheet → State → Observation → Type 0
Passes x s o = Observable x s o.index o.position

passes_accepted : (x : TableSheet) (s : State) (o : Observation) → Passes x s o → observe_with x s o.index o.position ≡ accepted (noted s o)
passes_accepted x s o h = observe_accepts x s o.index o.position h.good h.low h.not_old h.not_new h.same

module _ (x : TableSheet) (s : State) (o u : Observation) where
  -- of one index: they are the same
  same_record : length s.window ≡ slots → slot_of s o < slots → o.index ≡ u.index → Passes x (noted s o) u → o ≡ u
  unfolding slot_at agrees either
  same_record full h e passes =
      let says : seen o.position ≡ slot_at (noted s o) (slot_of s u) =
      sym (get_or-set_same s.window (slot_of s o) (seen o.position) unknown (omega arith))
      ∙ ap (λ k. slot_at (noted s o) (2 * s.turn - k)) e in
      let p : o.position ≡ u.position = eqb-true o.position u.position (ap (λ v. agrees v u.position) says ∙ passes.same) in
      λ i. record { index = e i; position = p i }

  -- of two: what the first leaves is nothing to the second
  module _ (apart : slot_of s u ≡ slot_of s o → ⊥) where
    slot_same : slot_at (noted s o) (slot_of s u) ≡ slot_at s (slot_of s u)
    unfolding slot_at
    slot_same = get_or-set_other s.window (slot_of s o) (slot_of s u) (seen o.position) unknown apart

    passes_before : state_ok x s ≡ true → Passes x (noted s o) u → Passes x s u
    passes_before good h =
        record {
          good = good;
          low = h.low;
          not_old = h.not_old;
          not_new = h.not_new;
          same = ap (λ v. agrees v u.position) (sym slot_same) ∙ h.same;
        }

    passes_after : o.position ≤ x.highest → Passes x s u → Passes x (noted s o) u
    passes_after low h =
        record {
          good = observed_good x s o.index o.position low h.good;
          low = h.low;
          not_old = h.not_old;
          not_new = h.not_new;
          same = ap (λ v. agrees v u.position) slot_same ∙ h.same;
        }

-- records on bytes

abbrev filled : List ℕ → Observation → List ℕ
filled b o = index_filled b o.index o.position

abbrev IsAccepted : TableSheet → List ℕ → Observation → Type 0
IsAccepted x b o = (s : State) × (observe_with x (decode_state b) o.index o.position ≡ accepted s)

-- each is accepted on the bytes that the one before it left, and c are those that the last one leaves
unfoldable pub EachAccepted : TableSheet → List ℕ → List Observation → List ℕ → Type 0
EachAccepted x b [] c = b ≡ c
EachAccepted x b (o ∷ later) c = IsAccepted x b o × EachAccepted x (filled b o) later c

-- that is what observing them all accepts, and what it leaves
module _ (x : TableSheet) (short : x.delay ≤ most_delay) where
  pub heard_each : (b : List ℕ) → length b ≡ state_bytes → (place : ℕ) (os : List Observation) (end : State)
      → observe_each x (decode_state b) place os ≡ heard_all end → EachAccepted x b os (all_filled b os)
  unfolding observe_each all_filled EachAccepted
  heard_each b long place [] end e = refl
  heard_each b long place (o ∷ later) end e =
      let (next, is, rest) = on_heard_lem place (observe_with x (decode_state b) o.index o.position) _ end e in
      let after = index_decodes x short b long o.index o.position next is in (
        (next, is),
        heard_each (filled b o) (length_filled b _ o.position ∙ long) (suc place) later end
            (ap (λ s. observe_each x s (suc place) later) after ∙ rest),
      )

  each_heard : (b : List ℕ) → length b ≡ state_bytes → (place : ℕ) (os : List Observation) (c : List ℕ) → EachAccepted x b os c
      → (observe_each x (decode_state b) place os ≡ heard_all (decode_state c)) × (all_filled b os ≡ c)
  unfolding observe_each on_heard all_filled EachAccepted
  each_heard b long place [] c e = (ap (λ b. heard_all (decode_state b)) e, e)
  each_heard b long place (o ∷ later) c ((next, is), rest) =
      let after = index_decodes x short b long o.index o.position next is in
      let r = each_heard (filled b o) (length_filled b _ o.position ∙ long) (suc place) later c rest in (
        ap (λ a. on_heard place a (λ s. observe_each x s (suc place) later)) is
            ∙ ap (λ s. observe_each x s (suc place) later) (sym after)
            ∙ r.0,
        r.1,
      )

  -- the records o and u on bytes, in this order and in the other

  abbrev Swapped : List ℕ → Observation → Observation → Type 0
  Swapped b o u = IsAccepted x b u × IsAccepted x (filled b u) o × (filled (filled b o) u ≡ filled (filled b u) o)

  module _ (b : List ℕ) (long : length b ≡ state_bytes) (o u : Observation) where
    abbrev s : State
    s = decode_state b

    apart_swap : (o.index ≡ u.index → ⊥) → Passes x s o → decode_state (filled b o) ≡ noted s o → Passes x (noted s o) u → Swapped b o u
    apart_swap differ f after-o g =
        let apart : slot_of s o ≡ slot_of s u → ⊥ = λ e. differ (omega (arith, f.not_new, g.not_new)) in
        let h = passes_before x s o u (λ e. apart (sym e)) f.good g in
        let first = passes_accepted x s u h in
        let after-u = index_decodes x short b long u.index u.position (noted s u) first in
        let second = passes_accepted x (noted s u) o (passes_after x s u o apart h.low f) in (
          (noted s u, first),
          (noted (noted s u) o, ap (λ n. observe_with x n o.index o.position) after-u ∙ second),
          ap (λ n. slot_filled (filled b o) (slot_of n u) u.position) after-o
              ∙ slots_swap b (slot_of s o) o.position (slot_of s u) u.position (omega (arith, f.not_old)) (omega (arith, g.not_old)) apart
              ∙ ap (λ n. slot_filled (filled b u) (slot_of n o) o.position) (sym after-u),
        )

    swap : IsAccepted x b o → IsAccepted x (filled b o) u → Swapped b o u
    swap (n, e) (m, d) =
        let (f, is) = observe_with_accepted x s o.index o.position n e in
        let after = index_decodes x short b long o.index o.position n e ∙ sym is in
        let g =
        observe_with_accepted x (noted s o) u.index u.position m
        (subst (λ n. observe_with x n u.index u.position ≡ accepted m) after d) in
        ⊎_elim
        (λ (i : o.index ≡ u.index).
        let same = same_record x s o u (window_full b) (omega (arith, f.not_old)) i g.0 in
        subst (Swapped b o) same ((n, e), subst (IsAccepted x (filled b o)) (sym same) (m, d), refl))
        (λ (i : o.index ≡ u.index → ⊥). apart_swap i f after g.0)
        (same? o.index u.index)

  -- any rearrangement
  pub each_rearranged : {os qs : List Observation} → Permᴰ os qs → (b : List ℕ) → length b ≡ state_bytes → (c : List ℕ)
      → EachAccepted x b os c → EachAccepted x b qs c
  unfolding EachAccepted
  each_rearranged Permᴰ.nil b long c h = h
  each_rearranged (Permᴰ.cons {a = o} {l₂ = later} e d) b long c h =
      subst (λ o. EachAccepted x b (o ∷ later) c) e
      (h.0, each_rearranged d (filled b o) (length_filled b _ o.position ∙ long) c h.1)
  each_rearranged (Permᴰ.swap {a = o} {b = u} {l = later} e f) b long c h =
      let r = swap b long o u h.0 h.1.0 in
      subst₂ (λ u o. EachAccepted x b (u ∷ o ∷ later) c) f e
      (r.0, (r.1, subst (λ b. EachAccepted x b later c) r.2 h.1.1))
  each_rearranged (Permᴰ.trans d g) b long c h = each_rearranged g b long c (each_rearranged d b long c h)

-- the library has it over its own numbers
pub rearranged_length : {A : Type 0} {os qs : List A} → Permᴰ os qs → length os ≡ length qs
rearranged_length Permᴰ.nil = refl
rearranged_length (Permᴰ.cons e d) = ap suc (rearranged_length d)
rearranged_length (Permᴰ.swap e f) = refl
rearranged_length (Permᴰ.trans d g) = rearranged_length d ∙ rearranged_length g

-- what an answer to a packet says of its records

accepts_heard : (s : State) (h : Heard) → (after_each s h).response ≡ accepts → (end : State) × (h ≡ heard_all end)
accepts_heard s (heard_all end) e = (end, refl)
accepts_heard s (refused_at n k) e = let z : ◌≡◌ {A = ℕ} 0 1 = cc in absurd (omega arith)

refuses_heard : (s : State) (h : Heard) (n k : ℕ) → (after_each s h).response ≡ refuses_at n k → h ≡ refused_at n k
refuses_heard s (heard_all end) n k e = let z : ◌≡◌ {A = ℕ} 0 1 = cc in absurd (omega arith)
refuses_heard s (refused_at m j) n k e = cc

accepts_packet : (s : State) (os : List Observation) (a : Answer TableSheet) → (after_packet s os a).response ≡ accepts
    → (x : TableSheet) × (a ≡ accepted x) × (end : State) × (observe_each x s 0 os ≡ heard_all end)
accepts_packet s os (refused n) e = let z : ◌≡◌ {A = ℕ} 0 1 = cc in absurd (omega arith)
accepts_packet s os (accepted x) e = let h = accepts_heard s (observe_each x s 0 os) e in (x, refl, h.0, h.1)

refuses_packet : (s : State) (os : List Observation) (a : Answer TableSheet) (n k : ℕ) → (after_packet s os a).response ≡ refuses_at n k
    → (x : TableSheet) × (a ≡ accepted x) × (observe_each x s 0 os ≡ refused_at n k)
refuses_packet s os (refused m) n k e = let z : ◌≡◌ {A = ℕ} 0 1 = cc in absurd (omega arith)
refuses_packet s os (accepted x) n k e = (x, refl, refuses_heard s (observe_each x s 0 os) n k e)

module _ (t b : List ℕ) (os : List Observation) where
  -- a packet that is refused at a place
  pub reply_refused : (n k : ℕ) → (packet_reply t b os).response ≡ refuses_at n k
      → (x : TableSheet) × (packet_answer t (decode_state b) (length os) ≡ accepted x) × FirstRefusal x (decode_state b) 0 os n k
  reply_refused n k e =
      let (x, is, h) = refuses_packet (decode_state b) os (packet_answer t (decode_state b) (length os)) n k e in
      (x, is, refused_each x (decode_state b) (packet_passed t (decode_state b) (length os) x is).2 0 os n k h)

  module _ (long : length b ≡ state_bytes) (c : List ℕ) where
    -- a packet that is accepted
    pub reply_each : packet_reply t b os ≡ record { response = accepts; bytes = c }
        → (x : TableSheet) × (packet_answer t (decode_state b) (length os) ≡ accepted x) × EachAccepted x b os c
    reply_each e =
        let r = ap (λ (r : PacketReply). r.response) e in
        let (x, is, end, h) = accepts_packet (decode_state b) os (packet_answer t (decode_state b) (length os)) r in
        let all : all_filled b os ≡ c = ap (λ r. bytes_by r (all_filled b os) b) (sym r) ∙ ap (λ (r : PacketReply). r.bytes) e in
        (x, is, subst (EachAccepted x b os) all (heard_each x (packet_passed t (decode_state b) (length os) x is).1 b long 0 os end h))

    pub each_reply : (x : TableSheet) → packet_answer t (decode_state b) (length os) ≡ accepted x → EachAccepted x b os c
        → packet_reply t b os ≡ record { response = accepts; bytes = c }
    each_reply x is each =
        let r = each_heard x (packet_passed t (decode_state b) (length os) x is).1 b long 0 os c each in
        let says : (reply t (decode_state b) (observe_all os)).response ≡ accepts =
        ap (λ a. (after_packet (decode_state b) os a).response) is ∙ ap (λ h. (after_each (decode_state b) h).response) r.0 in
        ap (λ r. record { response = r; bytes = bytes_by r (all_filled b os) b }) says ∙ ap (λ c. record { response = accepts; bytes = c }) r.1
