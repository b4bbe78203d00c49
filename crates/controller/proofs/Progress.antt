-- The invariant of demand 3: after any calls the state says what was done and observed of the exact play, and so each next call
-- has the right answer. Assumes nothing.
use Prim.Native.Nat.{ℕ, zero, suc, ◌+◌, ◌-◌, ◌*◌, ◌/◌, ◌≤◌, ◌<◌}
use mathlib.Core.Path.{◌≡◌, refl, sym, ◌∙◌, ap, ap₂, subst}
use mathlib.Core.Bool.{Bool, true, false, not, cond}
use mathlib.Core.Logic.{⊎_elim}
use mathlib.Core.List.{List, [], ◌∷◌}
use native.Mathlib.Omega.{arith}
use lib.Dec.{eqb, leb}
use lib.ListN.{length, get_or, take, set, length-set, get_or-replicate}
use lib.Seq.{ext_get_or, get_or-take, length-take-le, get_or-set_same, get_or-set_other}
use borrow.Author.Tests.{lt-ltb, le-ltb, le-leb, lt-leb, eq-eqb, ne_eqb, eqb-true, eqb-false}
use Rattle.theory.specs.Fold.{both, either, any_of}
use Rattle.theory.specs.Answer.{Answer, refused, accepted, check}
use Rattle.theory.specs.Game.{Game, Legal}
use Rattle.theory.specs.Play.{Play, origin, last, index, back, actions_of, last_actions, Rule, IsRule}
use Rattle.theory.specs.Table.{Table, flagged}
use Rattle.theory.specs.Exact.{going, Run, play_of, play_by, action_at, exact_choice, exact, worked}
use Rattle.theory.proofs.Fold.{bool, below?, both_true, both_false, either_left, all_below_lem, any_of_cons, length_tabulate, get_d_tabulate}
use Rattle.theory.proofs.Answer.{check_passed, check_failed}
use Rattle.theory.proofs.Plays.{back_play, play_position}
use Rattle.theory.proofs.Exact.{Goes, exact_goes}
use Rattle.table.specs.TableSheet.{TableSheet}
use Rattle.state.specs.State.{agrees, last_turn, most_held, slots, unknown, seen, slot_at, held_at, within_at, held_ok, window_ok, state_ok, observed, pushed, shifted_at, shifted, acted_state}
use Rattle.controller.specs.Controller.{observe_with, word_of, next_action, needed_known, act_with, most_observations, Heard, heard_all, refused_at, on_heard, observe_each}
use Rattle.controller.specs.Sound.{Sound}
use Rattle.controller.specs.Accuracy.{Call, observe, observe_all, act, Response, accepts, refuses, refuses_at, Reply, after_observing, after_each, after_packet, after_acting}
use Rattle.controller.specs.Accuracy.{Progress, begun, turn_of, indices_in, after, HasAt, TrueReport, TrueReports, is_observed, to_act, right_report, right_reports, right_answer}
use Rattle.controller.specs.declared.calls.Observation.{Observation}
use Rattle.controller.specs.declared.calls.TurnTaken.{TurnTaken}
use Rattle.state.specs.declared.state.Slot.{Slot}
use Rattle.state.specs.declared.state.State.{State}
use Rattle.controller.proofs.PlayLaws.{word_actions, action_small, further, exact_further, worked_further}
use Rattle.controller.proofs.AnswerLaws.{observe_16, observe_17, observe_18, observe_accepts, act_15, act_13, act_answers}

-- a slot that is known exactly if b, and then at position p

slot_within : (b : Bool) (p highest : ℕ) (v : Slot) → v ≡ cond b (seen p) unknown → p ≤ highest
    → either (not v.known) (leb v.position highest) ≡ true
unfolding either
slot_within true p highest v e h = rw e (le-leb p highest h)
slot_within false p highest v e h = rw e

slot_agrees : (b : Bool) (p q : ℕ) (v : Slot) → v ≡ cond b (seen q) unknown → q ≡ p → agrees v p ≡ true
unfolding agrees either
slot_agrees true p q v e h = rw e (eq-eqb q p h)
slot_agrees false p q v e h = rw e

slot_known : (b : Bool) (p : ℕ) (v : Slot) → v ≡ cond b (seen p) unknown → v.known ≡ b
slot_known true p v e = rw e
slot_known false p v e = rw e

-- one index more is observed
observed_more : (k : ℕ) (indices : List ℕ) (j : ℕ) → k ≡ j → any_of (λ m. eqb m j) (k ∷ indices) ≡ true
observed_more k indices j e = rw (any_of_cons (λ m. eqb m j) k indices) (either_left _ _ (eq-eqb k j e))

observed_other : (k : ℕ) (indices : List ℕ) (j : ℕ) → (k ≡ j → ⊥) → any_of (λ m. eqb m j) (k ∷ indices) ≡ any_of (λ m. eqb m j) indices
unfolding either
observed_other k indices j e = any_of_cons (λ m. eqb m j) k indices ∙ rw (ne_eqb k j e)

-- while 2i < d the action needs no observation and no word
early_same : (A d : ℕ) (T : Table) (i p q v w : ℕ) → 2 * i < d → action_at A d T i p v ≡ action_at A d T i q w
unfolding action_at
early_same A d T i p q v w h = rw (lt-ltb (2 * i) d h)

module _ (G : Game) (legal : Legal G) (x : TableSheet) (sound : Sound G x) (w : ℕ) (w-flagged : flagged x.table w ≡ true) (rule : Rule) (is : IsRule G rule) where
  pub goes : (n : ℕ) → Goes G x.delay x.table rule n
  goes n = exact_goes G legal x.delay x.table sound.fits sound.judged w w-flagged rule is n

  abbrev pub play : ℕ → Play
  play n = (goes n).play

  pub record Follows (s : Progress) : Type 0 where
    pub works : worked G rule s.actions ≡ going (play (turn_of s))
    pub acts : s.actions ≡ actions_of (play (turn_of s))
    pub bound : turn_of s ≤ last_turn
    pub turn : s.state.turn ≡ turn_of s
    pub latest_size : length s.state.last ≡ most_held
    pub latest : (k : ℕ) → k < most_held → get_or s.state.last k 0 ≡ get_or s.actions k 0
    pub window_size : length s.state.window ≡ slots
    -- a slot of the window is known exactly if its index was observed, and has the position of the exact play
    pub slot : (k : ℕ) → k ≤ x.delay → k ≤ 2 * turn_of s
        → slot_at s.state k ≡ cond (is_observed s (2 * turn_of s - k)) (seen (last G (back k (play (turn_of s))))) unknown
    pub unobserved : (j : ℕ) → 2 * turn_of s < j → is_observed s j ≡ false

  -- the exact play's turns

  next_play : (n : ℕ) → play (suc n) ≡ further G x.delay x.table rule n (goes n)
  next_play n =
      let a = (goes (suc n)).is in
      let b = exact_further G x.delay x.table rule n (goes n) in
      cc

  first_play : play 0 ≡ origin
  unfolding exact play_by
  first_play = let a = (goes 0).is in cc

  pub begins : Follows begun
  unfolding worked slot_at any_of actions_of
  begins =
      record {
        works = ap going (sym first_play);
        acts = ap actions_of (sym first_play);
        bound = omega arith;
        turn = refl;
        latest_size = refl;
        latest = λ k h. get_or-replicate most_held k 0 0 h;
        window_size = refl;
        slot = λ k h l. get_or-replicate slots k unknown unknown (omega arith);
        unobserved = λ j h. refl;
      }

  -- 20 is never answered

  position_small : (n k : ℕ) → last G (back k (play n)) ≤ x.highest
  position_small n k = omega (arith, play_position legal (back_play k (goes n).of_game), sound.highest)

  module _ (s : Progress) (f : Follows s) where
    held_small : (k : ℕ) → k < most_held → k < turn_of s → held_at x.actions s.state.last k ≡ true
    unfolding held_at
    held_small k h l =
        let a : length s.actions ≡ length (actions_of (play (turn_of s))) = ap length f.acts in
        let b = f.latest k h in
        let e : get_or s.actions k 0 ≡ get_or (actions_of (play (turn_of s))) k 0 = ap (λ l. get_or l k 0) f.acts in
        let c = action_small legal (goes (turn_of s)).of_game k (omega arith) in
        lt-ltb (get_or s.state.last k 0) x.actions (omega (arith, sound.actions))

    window_small : (k : ℕ) → k ≤ x.delay → k ≤ 2 * turn_of s → within_at x.highest s.state.window k ≡ true
    unfolding within_at slot_at
    window_small k h l =
        slot_within (is_observed s (2 * turn_of s - k)) (last G (back k (play (turn_of s)))) x.highest _ (f.slot k h l)
        (position_small (turn_of s) k)

    pub good_state : state_ok x s.state ≡ true
    unfolding state_ok held_ok window_ok
    good_state =
        let t = f.turn in
        let d = sound.short_delay in
        let b = f.bound in
        both_true _ _ (le-leb s.state.turn last_turn (omega arith))
        (both_true _ _ (all_below_lem _ _ (λ k h. held_small k (omega arith) (omega arith)))
        (all_below_lem _ _ (λ k h. window_small k (omega arith) (omega arith))))

  -- a call's answer is the right one, and the invariant holds after it
  abbrev pub Right : Progress → Call → Reply → Type 0
  Right s c r = (r.response ≡ right_answer G x rule s c) × Follows (after s c r)

  -- after a report of index k was observed
  abbrev heard_from : Progress → ℕ → State → Progress
  heard_from s k next = record { state = next; actions = s.actions; indices = k ∷ s.indices }

  -- a report's answer is the right one, with any refusal and any rest, and the invariant holds after it
  data ReportRight (s : Progress) (k p : ℕ) : Answer State → Type 0 where
    report_refused : (n : ℕ) → ((refusal : ℕ → Response) (rest : Response) → right_report x (turn_of s) k p refusal rest ≡ refusal n)
        → ReportRight s k p (refused n)
    report_accepted : (next : State) → ((refusal : ℕ → Response) (rest : Response) → right_report x (turn_of s) k p refusal rest ≡ rest)
        → Follows (heard_from s k next) → ReportRight s k p (accepted next)

  -- a packet's answer is the right one, for its records from a place on
  data EachRight (s : Progress) (place : ℕ) (os : List Observation) : Heard → Type 0 where
    each_refused : (n k : ℕ) → right_reports x (turn_of s) place os ≡ refuses_at n k → EachRight s place os (refused_at n k)
    each_accepted : (next : State) → right_reports x (turn_of s) place os ≡ accepts
        → Follows (record { state = next; actions = s.actions; indices = indices_in os s.indices }) → EachRight s place os (heard_all next)

  module _ (s : Progress) (f : Follows s) (k p : ℕ) where
    -- a report of an index in the window is true of the exact play
    told : HasAt G (worked G rule s.actions) k p → last G (back (2 * turn_of s - k) (play (turn_of s))) ≡ p
    told (h, e) =
        ap (λ n. last G (back (n - k) (play (turn_of s)))) (sym (goes (turn_of s)).index_is)
        ∙ ap (λ (r : Run). last G (back (index (play_of r) - k) (play_of r))) (sym f.works)
        ∙ e

    module _ (l : 2 * turn_of s ≤ k + x.delay) (u : k ≤ 2 * turn_of s) (e : last G (back (2 * turn_of s - k) (play (turn_of s))) ≡ p) where
      observed_agrees : agrees (slot_at s.state (2 * s.state.turn - k)) p ≡ true
      observed_agrees =
          ap (λ n. agrees (slot_at s.state (2 * n - k)) p) f.turn
          ∙ slot_agrees (is_observed s (2 * turn_of s - (2 * turn_of s - k))) p _ _ (f.slot (2 * turn_of s - k) (omega arith) (omega arith)) e

      observed_slot : (j : ℕ) → j ≤ x.delay → j ≤ 2 * turn_of s
          → get_or (set s.state.window (2 * turn_of s - k) (seen p)) j unknown
          ≡ cond (any_of (λ m. eqb m (2 * turn_of s - j)) (k ∷ s.indices)) (seen (last G (back j (play (turn_of s))))) unknown
      unfolding slot_at
      observed_slot j h g =
          ⊎_elim
          (λ (t : eqb j (2 * turn_of s - k) ≡ true).
          let q : j ≡ 2 * turn_of s - k = eqb-true j (2 * turn_of s - k) t in
          let z = f.window_size in
          let b = sound.short_delay in
          ap (λ i. get_or (set s.state.window (2 * turn_of s - k) (seen p)) i unknown) q
          ∙ get_or-set_same s.state.window (2 * turn_of s - k) (seen p) unknown (omega arith)
          ∙ ap seen (sym e ∙ ap (λ i. last G (back i (play (turn_of s)))) (sym q))
          ∙ ap (λ b. cond b (seen (last G (back j (play (turn_of s))))) unknown)
          (sym (observed_more k s.indices (2 * turn_of s - j) (omega arith))))
          (λ (t : eqb j (2 * turn_of s - k) ≡ false).
          let q = eqb-false j (2 * turn_of s - k) t in
          get_or-set_other s.state.window (2 * turn_of s - k) j (seen p) unknown q
          ∙ f.slot j h g
          ∙ ap (λ b. cond b (seen (last G (back j (play (turn_of s))))) unknown)
          (sym (observed_other k s.indices (2 * turn_of s - j) (λ r. q (omega arith)))))
          (bool (eqb j (2 * turn_of s - k)))

      observed_follows : Follows (heard_from s k (observed s.state k p))
      unfolding slot_at
      observed_follows =
          record {
            works = f.works;
            acts = f.acts;
            bound = f.bound;
            turn = f.turn;
            latest_size = f.latest_size;
            latest = f.latest;
            window_size = length-set s.state.window (2 * s.state.turn - k) (seen p) ∙ f.window_size;
            slot =
                λ j h g.
                ap (λ n. get_or (set s.state.window (2 * n - k) (seen p)) j unknown) f.turn ∙ observed_slot j h g;
            unobserved = λ j h. observed_other k s.indices j (λ r. omega arith) ∙ f.unobserved j h;
          }

    -- a true report has the right answer, whatever becomes of the refusal and the rest
    observe_single : TrueReport G x.delay rule s.actions k p → ReportRight s k p (observe_with x s.state k p)
    observe_single true_of =
        let t = f.turn in
        let good = good_state s f in
        ⊎_elim
        (λ (o : x.highest < p).
        subst (ReportRight s k p) (sym (observe_16 x s.state k p good o))
        (report_refused 16 (λ refusal rest. rw (lt-ltb x.highest p o))))
        (λ (h : p ≤ x.highest).
        ⊎_elim
        (λ (o : k + x.delay < 2 * turn_of s).
        subst (ReportRight s k p) (sym (observe_17 x s.state k p good h (omega arith)))
        (report_refused 17 (λ refusal rest. rw (le-ltb x.highest p h, lt-ltb (k + x.delay) (2 * turn_of s) o))))
        (λ (l : 2 * turn_of s ≤ k + x.delay).
        ⊎_elim
        (λ (o : 2 * turn_of s < k).
        subst (ReportRight s k p) (sym (observe_18 x s.state k p good h (omega arith)))
        (report_refused 18
        (λ refusal rest. rw (le-ltb x.highest p h, le-ltb (k + x.delay) (2 * turn_of s) l, lt-ltb (2 * turn_of s) k o))))
        (λ (u : k ≤ 2 * turn_of s).
        let e = told (true_of l u) in
        subst (ReportRight s k p)
        (sym (observe_accepts x s.state k p good h (omega arith) (omega arith) (observed_agrees l u e)))
        (report_accepted (observed s.state k p)
        (λ refusal rest. rw (le-ltb x.highest p h, le-ltb (k + x.delay) (2 * turn_of s) l, le-ltb (2 * turn_of s) k u))
        (observed_follows l u e)))
        (below? (2 * turn_of s) k))
        (below? (k + x.delay) (2 * turn_of s)))
        (below? x.highest p)

    single_right : {a : Answer State} → ReportRight s k p a → Right s (observe k p) (after_observing s.state a)
    single_right (report_refused n e) = (sym (e refuses accepts), f)
    single_right (report_accepted next e g) = (sym (e refuses accepts), g)

    pub observe_right : TrueReport G x.delay rule s.actions k p
        → Right s (observe k p) (after_observing s.state (observe_with x s.state k p))
    observe_right true_of = single_right (observe_single true_of)

  -- a packet's records from a place on, on a state that follows
  module _ (s : Progress) (place : ℕ) where
    each_more : (o : Observation) (later : List Observation) (next : State)
        → ((refusal : ℕ → Response) (rest : Response) → right_report x (turn_of s) o.index o.position refusal rest ≡ rest)
        → {h : Heard} → EachRight (heard_from s o.index next) (suc place) later h → EachRight s place (o ∷ later) h
    unfolding right_reports indices_in
    each_more o later next e (each_refused n k q) =
        each_refused n k (e (λ n. refuses_at n place) (right_reports x (turn_of s) (suc place) later) ∙ q)
    each_more o later next e (each_accepted end q g) =
        each_accepted end (e (λ n. refuses_at n place) (right_reports x (turn_of s) (suc place) later) ∙ q) g

    each_first : (o : Observation) (later : List Observation) {a : Answer State} → ReportRight s o.index o.position a
        → ((next : State) → Follows (heard_from s o.index next)
        → EachRight (heard_from s o.index next) (suc place) later (observe_each x next (suc place) later))
        → EachRight s place (o ∷ later) (on_heard place a (λ next. observe_each x next (suc place) later))
    unfolding on_heard right_reports
    each_first o later (report_refused n e) rest =
        each_refused n place (e (λ n. refuses_at n place) (right_reports x (turn_of s) (suc place) later))
    each_first o later (report_accepted next e g) rest = each_more o later next e (rest next g)

  each_right : (s : Progress) → Follows s → (place : ℕ) (os : List Observation) → TrueReports G x.delay rule s.actions os
      → EachRight s place os (observe_each x s.state place os)
  unfolding observe_each TrueReports right_reports indices_in
  each_right s f place [] h = each_accepted s.state refl f
  each_right s f place (o ∷ later) h =
      each_first s place o later (observe_single s f o.index o.position h.0)
      (λ next g. each_right (heard_from s o.index next) g (suc place) later h.1)

  module _ (s : Progress) (f : Follows s) (os : List Observation) where
    walked_right : length os ≤ most_observations → {h : Heard} → EachRight s 0 os h → Right s (observe_all os) (after_each s.state h)
    walked_right few (each_refused n k q) = (rw (le-ltb most_observations (length os) few) (sym q), f)
    walked_right few (each_accepted next q g) = (rw (le-ltb most_observations (length os) few) (sym q), g)

    abbrev PacketRight : Answer TableSheet → Type 0
    PacketRight a = Right s (observe_all os) (after_packet s.state os a)

    pub observe_all_right : TrueReports G x.delay rule s.actions os
        → PacketRight (check (state_ok x s.state) 20 (check (leb (length os) most_observations) 22 (accepted x)))
    observe_all_right true_of =
        ⊎_elim
        (λ (o : most_observations < length os).
        subst PacketRight (sym (check_passed _ 20 _ (good_state s f) ∙ check_failed _ 22 _ (lt-leb (length os) most_observations o)))
        (rw (lt-ltb most_observations (length os) o), f))
        (λ (few : length os ≤ most_observations).
        subst PacketRight (sym (check_passed _ 20 _ (good_state s f) ∙ check_passed _ 22 _ (le-leb (length os) most_observations few)))
        (walked_right few (each_right s f 0 os true_of)))
        (below? most_observations (length os))

  module _ (s : Progress) (f : Follows s) where
    abbrev needed : ℕ
    needed = 2 * turn_of s - x.delay

    -- refusal 13's test is that of the claim
    known_early : 2 * turn_of s < x.delay → needed_known x s.state ≡ true
    unfolding needed_known
    known_early l = let t = f.turn in either_left _ _ (lt-ltb (2 * s.state.turn) x.delay (omega arith))

    known_late : x.delay ≤ 2 * turn_of s → needed_known x s.state ≡ is_observed s needed
    unfolding needed_known either
    known_late g =
        let t = f.turn in
        rw (le-ltb (2 * s.state.turn) x.delay (omega arith))
        (slot_known (is_observed s needed) _ _ (f.slot x.delay (omega arith) g))

    -- the word that the state holds is that of the play
    word_is : x.delay / 2 ≤ turn_of s
        → word_of G.actions (take (x.delay / 2) s.state.last) ≡ last_actions G.actions (play (turn_of s)) (x.delay / 2)
    word_is h =
        let d = sound.short_delay in
        let z = f.latest_size in
        ap (word_of G.actions)
        (ext_get_or 0 _ _
        (length-take-le (x.delay / 2) s.state.last (omega arith) ∙ sym (length-take-le (x.delay / 2) s.actions h))
        (λ k l.
        let m : k < x.delay / 2 = rw (length-take-le (x.delay / 2) s.state.last (omega arith)) at l in
        get_or-take (x.delay / 2) s.state.last k 0 m
        ∙ f.latest k (omega arith)
        ∙ sym (get_or-take (x.delay / 2) s.actions k 0 m))
        ∙ ap (take (x.delay / 2)) f.acts)
        ∙ sym (word_actions G.actions (play (turn_of s)) (x.delay / 2))

    -- the action of the state's turn is the exact play's
    action_by : next_action x s.state
        ≡ action_at G.actions x.delay x.table (turn_of s) (slot_at s.state x.delay).position
        (word_of G.actions (take (x.delay / 2) s.state.last))
    unfolding next_action
    action_by =
        ap₂
        (λ A n.
        action_at A x.delay x.table n (slot_at s.state x.delay).position
        (word_of A (take (x.delay / 2) s.state.last)))
        sound.actions
        f.turn

    exact_action_lem : exact_choice G x.delay x.table (play (turn_of s))
        ≡ action_at G.actions x.delay x.table (turn_of s) (last G (back x.delay (play (turn_of s))))
        (last_actions G.actions (play (turn_of s)) (x.delay / 2))
    unfolding exact_choice
    exact_action_lem =
        ap
        (λ n.
        action_at G.actions x.delay x.table n (last G (back x.delay (play (turn_of s))))
        (last_actions G.actions (play (turn_of s)) (x.delay / 2)))
        (goes (turn_of s)).turn

    action_early : 2 * turn_of s < x.delay → next_action x s.state ≡ exact_choice G x.delay x.table (play (turn_of s))
    action_early l =
        action_by ∙ early_same G.actions x.delay x.table (turn_of s) _ _ _ _ l ∙ sym exact_action_lem

    action_late : x.delay ≤ 2 * turn_of s → is_observed s needed ≡ true
        → next_action x s.state ≡ exact_choice G x.delay x.table (play (turn_of s))
    action_late g known =
        let v : slot_at s.state x.delay ≡ seen (last G (back x.delay (play (turn_of s)))) =
        f.slot x.delay (omega arith) g
        ∙ ap (λ b. cond b (seen (last G (back x.delay (play (turn_of s))))) unknown) known in
        action_by
        ∙ ap₂ (action_at G.actions x.delay x.table (turn_of s)) (ap (λ (v : Slot). v.position) v) (word_is (omega arith))
        ∙ sym exact_action_lem

    -- a turn later

    abbrev action : ℕ
    action = (goes (turn_of s)).action

    pushed_latest : (k : ℕ) → k < most_held → get_or (pushed action s.state.last) k 0 ≡ get_or (action ∷ s.actions) k 0
    unfolding pushed
    pushed_latest zero h = refl
    pushed_latest (suc zero) h = f.latest 0 (omega arith)
    pushed_latest (suc (suc zero)) h = f.latest 1 (omega arith)
    pushed_latest (suc (suc (suc k))) h = absurd (omega arith)

    -- a slot of age k + 2 is the one of age k a turn before
    shifted_slot : (k : ℕ) → k ≤ x.delay → k ≤ 2 * suc (turn_of s)
        → shifted_at x.delay s.state.window k
        ≡ cond (is_observed s (2 * suc (turn_of s) - k)) (seen (last G (back k (play (suc (turn_of s)))))) unknown
    unfolding shifted_at both slot_at back
    shifted_slot zero h l = rw (f.unobserved (2 * suc (turn_of s) - 0) (omega arith))
    shifted_slot (suc zero) h l = rw (f.unobserved (2 * suc (turn_of s) - 1) (omega arith))
    shifted_slot (suc (suc k)) h l =
        let a : suc (suc k) - 2 ≡ k = omega arith in
        let b : 2 * turn_of s - k ≡ 2 * suc (turn_of s) - suc (suc k) = omega arith in
        rw (le-leb 2 (suc (suc k)) (omega arith), le-leb (suc (suc k)) x.delay h)
        (ap (λ j. get_or s.state.window j unknown) a
        ∙ f.slot k (omega arith) (omega arith)
        ∙ ap₂ (λ j q. cond (is_observed s j) (seen q) unknown) b
        (ap (λ π. last G (back (suc (suc k)) π)) (sym (next_play (turn_of s)))))

    acted_follows : turn_of s < last_turn
        → Follows (record { state = acted_state x.delay s.state action; actions = action ∷ s.actions; indices = s.indices })
    unfolding slot_at actions_of shifted pushed
    acted_follows m =
        let n = next_play (turn_of s) in
        let d = sound.short_delay in
        record {
          works =
              worked_further G x.delay x.table rule (turn_of s) (goes (turn_of s)) s.actions f.works ∙ ap going (sym n);
          acts = ap (λ l. action ∷ l) f.acts ∙ ap actions_of (sym n);
          bound = m;
          turn = ap suc f.turn;
          latest_size = refl;
          latest = pushed_latest;
          window_size = length_tabulate (shifted_at x.delay s.state.window) 0 slots;
          slot =
              λ k h l.
              get_d_tabulate (shifted_at x.delay s.state.window) slots k unknown (omega arith) ∙ shifted_slot k h l;
          unobserved = λ j h. f.unobserved j (omega arith);
        }

    abbrev RightBy : Answer TurnTaken → Type 0
    RightBy a = Right s act (after_acting s.state a)

    -- there is an action where refusals 15 and 13 pass
    acted_right : turn_of s < last_turn → needed_known x s.state ≡ true
        → both (leb x.delay (2 * turn_of s)) (not (is_observed s needed)) ≡ false
        → next_action x s.state ≡ exact_choice G x.delay x.table (play (turn_of s)) → RightBy (act_with x s.state)
    acted_right m r b c =
        let t = f.turn in
        let g = goes (turn_of s) in
        subst RightBy
        (sym
        (act_answers x s.state (good_state s f) (λ (q : s.state.turn ≡ last_turn). omega arith) r action
        (c ∙ g.has_action))) (
          rw (ne_eqb (turn_of s) last_turn (λ (q : turn_of s ≡ last_turn). omega arith), b)
              (ap to_act (sym (ap (λ (r : Run). exact_choice G x.delay x.table (play_of r)) g.is ∙ g.has_action))),
          acted_follows m,
        )

    pub act_right : RightBy (act_with x s.state)
    unfolding both
    act_right =
        let t = f.turn in
        let u = f.bound in
        ⊎_elim
        (λ (e : eqb (turn_of s) last_turn ≡ true).
        let q : turn_of s ≡ last_turn = eqb-true (turn_of s) last_turn e in
        subst RightBy (sym (act_15 x s.state (good_state s f) (f.turn ∙ q))) (rw e, f))
        (λ (e : eqb (turn_of s) last_turn ≡ false).
        let q = eqb-false (turn_of s) last_turn e in
        let m : turn_of s < last_turn = omega arith in
        ⊎_elim
        (λ (l : 2 * turn_of s < x.delay).
        acted_right m (known_early l) (rw (lt-leb x.delay (2 * turn_of s) l)) (action_early l))
        (λ (g : x.delay ≤ 2 * turn_of s).
        ⊎_elim
        (λ (k : is_observed s needed ≡ true).
        acted_right m (known_late g ∙ k) (both_false (leb x.delay (2 * turn_of s)) _ (ap not k)) (action_late g k))
        (λ (k : is_observed s needed ≡ false).
        subst RightBy
        (sym (act_13 x s.state (good_state s f) (λ r. q (sym t ∙ r)) (known_late g ∙ k)))
        (rw (e, le-leb x.delay (2 * turn_of s) g, k), f))
        (bool (is_observed s needed)))
        (below? (2 * turn_of s) x.delay))
        (bool (eqb (turn_of s) last_turn))
