-- Opening, observing and acting, as the code of src/calls.rt finds them: the checks before have passed, and one fails.
-- Assumes nothing.
use Prim.Native.Nat.{ℕ, ◌+◌, ◌-◌, ◌*◌, ◌/◌, ◌^◌, ◌≤◌, ◌<◌}
use mathlib.Core.Path.{◌≡◌, refl, sym, ◌∙◌, ap, ap₂}
use mathlib.Core.Bool.{Bool, true, false}
use mathlib.Core.List.{List, []}
use mathlib.Core.Logic.{⊎_elim}
use native.Mathlib.Omega.{arith}
use lib.Count.{count_trailing_zeros}
use lib.ListN.{get_or, set, take}
use mir.Syntax.{w64}
use mir.Val.{Fits}
use borrow.Author.Rules.{rules}
use borrow.Author.Tests.{leb-true, lt-ltb, le-ltb}
use Rattle.std.specs.Prelude.{Option, Some, None, Result, Ok, Err, ok_or}
use Rattle.std.proofs.lemmas.Option.{none-some, cond_some}
use Rattle.theory.specs.Fold.{either}
use Rattle.theory.specs.Answer.{Answer, refused, accepted, check, on_accepted}
use Rattle.theory.specs.Words.{digit}
use Rattle.theory.specs.Strategy.{initial_length}
use Rattle.theory.specs.Table.{flagged}
use Rattle.theory.specs.Exact.{some, least_flagged, lowest_in, action_at}
use Rattle.theory.proofs.Fold.{bool, both_left, either_left}
use Rattle.theory.proofs.Answer.{check_passed, check_failed}
use Rattle.theory.proofs.Masks.{lowest_acts, lowest_missing, lowest_trailing}
use Rattle.sheet.specs.Limits.{most_delay}
use Rattle.sheet.specs.Form.{part_at}
use Rattle.sheet.specs.Refusals.{number_of, answer_of, answer_by}
use Rattle.sheet.specs.declared.refusal.Refusal.{Refusal}
use Rattle.sheet.proofs.RefusalLaws.{answer_accepted, by_accepted}
use Rattle.table.specs.TableSheet.{TableSheet, says, table_at, table_answer}
use Rattle.table.proofs.Accepted.{table_accepted}
use Rattle.table.specs.declared.reading.TableLayout.{TableLayout}
use Rattle.state.specs.State.{agrees, last_turn, slots, unknown, seen, observed_in, slot_at, held_ok, window_ok, state_ok, observed, acted_state}
use Rattle.controller.specs.Controller.{observe_with, word_of, next_action, needed_known, act_with, observe_answer}
use Rattle.controller.specs.code.Usable.{Usable}
use Rattle.controller.specs.code.Ages.{age_with}
use Rattle.controller.specs.declared.calls.TurnTaken.{TurnTaken}
use Rattle.state.specs.declared.state.Slot.{Slot}
use Rattle.state.specs.declared.state.State.{State}
use Rattle.controller.proofs.AnswerLaws.{age_accepted, observed_at, observe_20, observe_aged, act_20, act_15, act_13, act_14, act_answers}

-- what passing check 20 says of the turn

module _ (l : TableLayout) (s : State) (b : Bool) (e : b ≡ state_ok (says l [] []) s) where
  pub turn_few : b ≡ true → s.turn ≤ last_turn
  unfolding state_ok
  turn_few g = leb-true s.turn last_turn (both_left _ _ (sym e ∙ g))

  pub turn_fits : b ≡ true → Fits w64 (2 * s.turn)
  turn_fits g = record { fits = omega (arith, turn_few g) }

  pub turn_left : b ≡ true → (s.turn ≡ last_turn → ⊥) → s.turn < last_turn
  turn_left g t = omega (arith, turn_few g)

-- an age's slot is one of the window

module _ (highest d n k p : ℕ) (y : Result ℕ Refusal) (ey : answer_of y ≡ age_with highest d n k p) (age : ℕ) (ay : y ≡ Ok age) where
  is_age : (age ≡ n - k) × (age ≤ d)
  is_age = age_accepted highest d n k p age (answer_accepted y _ ey age ay)

  pub age_small : d ≤ most_delay → age < slots
  age_small short = omega (arith, is_age.1)

  pub age_fits : d ≤ most_delay → Fits w64 (age * 2)
  age_fits short = record { fits = omega (arith, is_age.1) }

-- observing; b is the result of check 20, y where the report goes

module _ (l : TableLayout) (s : State) (k p : ℕ) (b : Bool) (e : b ≡ state_ok (says l [] []) s) where
  abbrev answer : Answer State
  answer = observe_with (says l [] []) s k p

  pub observed_20 : b ≡ false → refused 20 ≡ answer
  observed_20 g = sym (observe_20 (says l [] []) s k p (sym e ∙ g))

  module _ (g : b ≡ true) (y : Result ℕ Refusal) (ey : answer_of y ≡ age_with l.highest l.delay (2 * s.turn) k p) where
    by_age : observed_at s k p (answer_of y) ≡ answer
    by_age = ap (observed_at s k p) ey ∙ sym (observe_aged (says l [] []) s k p (sym e ∙ g))

    pub observed_nowhere : (why : Refusal) → y ≡ Err why → refused (number_of why) ≡ answer
    unfolding on_accepted
    observed_nowhere why ay = ap (λ y. observed_at s k p (answer_of y)) (sym ay) ∙ by_age

    module _ (age : ℕ) (ay : y ≡ Ok age) where
      at_age : check (agrees (get_or s.window age unknown) p) 19 (accepted (observed s k p)) ≡ answer
      unfolding on_accepted slot_at
      at_age = ap (λ y. observed_at s k p (answer_of y)) (sym ay) ∙ by_age

      module _ (a : Bool) (ea : a ≡ agrees (get_or s.window age unknown) p) where
        pub observed_19 : a ≡ false → refused 19 ≡ answer
        observed_19 t = sym (check_failed _ 19 _ (sym ea ∙ t)) ∙ at_age

        pub observed_accepts : a ≡ true
            → accepted (record { turn = s.turn; last = s.last; window = set s.window age (seen p) }) ≡ answer
        observed_accepts t =
            ap (λ n. accepted (record { turn = s.turn; last = s.last; window = set s.window n (seen p) }))
            (is_age l.highest l.delay (2 * s.turn) k p y ey age ay).0
            ∙ sym (check_passed _ 19 _ (sym ea ∙ t))
            ∙ at_age

pub ruleset observe_laws = (rules, turn_fits, observed_20, observed_nowhere, age_small, age_fits, observed_19, observed_accepts)

-- acting; v is the delay as a number

-- check 20 needs no table
pub state_any : (l : TableLayout) (f m : List ℕ) (s : State) → state_ok (says l [] []) s ≡ state_ok (says l f m) s
unfolding state_ok held_ok window_ok
state_any l f m s = refl

least_any : (f m : List ℕ) → least_flagged (record { flags = f; masks = [] }) ≡ least_flagged (record { flags = f; masks = m })
unfolding least_flagged flagged
least_any f m = refl

module _ (x : TableSheet) (s : State) where
  early_known : 2 * s.turn < x.delay → needed_known x s ≡ true
  unfolding needed_known
  early_known h = either_left _ _ (lt-ltb (2 * s.turn) x.delay h)

  late_known : x.delay ≤ 2 * s.turn → needed_known x s ≡ (slot_at s x.delay).known
  unfolding needed_known either
  late_known h = rw (le-ltb (2 * s.turn) x.delay h)

  early_choice : 2 * s.turn < x.delay
      → next_action x s ≡ some (digit x.actions (initial_length x.delay) (least_flagged x.table) s.turn)
  unfolding next_action action_at
  early_choice h = rw (lt-ltb (2 * s.turn) x.delay h)

  -- the mask of the needed observation's node
  abbrev mask : ℕ
  mask =
      get_or x.table.masks
      ((slot_at s x.delay).position * x.actions ^ (x.delay / 2) + word_of x.actions (take (x.delay / 2) s.last))
      0

  late_choice : x.delay ≤ 2 * s.turn → next_action x s ≡ lowest_in x.actions mask
  unfolding next_action action_at
  late_choice h = rw (le-ltb (2 * s.turn) x.delay h)

-- what a slot says

-- where a value is missing, the result is the error that was named for it
pub missing : {A : Type 0} (o : Option A) (why e : Refusal) → Err e ≡ ok_or o why → (o ≡ None) × (e ≡ why)
missing None why e q = (refl, cc)
missing (Some x) why e q = (cc, cc)

-- and where none was named, there is a value
found : (o : Option ℕ) (why : Refusal) (p : ℕ) → ok_or o why ≡ Ok p → o ≡ Some p
found None why p q = absurd cc
found (Some x) why p q = cc

-- as the code asks a slot
pub slot_found : (w : Slot) (o : Option ℕ) (why : Refusal) (r : Result ℕ Refusal) (p : ℕ) → o ≡ observed_in w → r ≡ ok_or o why → r ≡ Ok p
    → observed_in w ≡ Some p
slot_found w o why r p eo er e = sym eo ∙ found o why p (sym er ∙ e)

unobserved : (w : Slot) → observed_in w ≡ None → w.known ≡ false
unfolding observed_in
unobserved w e = ⊎_elim
    (λ (t : w.known ≡ true). absurd (none-some w.position (sym e ∙ rw t)))
    (λ f. f)
    (bool w.known)

observed_is : (w : Slot) (p : ℕ) → observed_in w ≡ Some p → (w.known ≡ true) × (w.position ≡ p)
unfolding observed_in
observed_is w p e = cond_some w.known w.position p e

-- the needed observation's slot is one of the window
pub needed_slot : (l : TableLayout) (f m : List ℕ) (v : ℕ) → v ≡ l.delay → Usable (says l f m) → v < slots
needed_slot l f m v e u = omega (arith, u.short_delay)

module _ (l : TableLayout) (f m : List ℕ) (s : State) (b : Bool) (e : b ≡ state_ok (says l [] []) s) where
  abbrev acting : Answer TurnTaken
  acting = act_with (says l f m) s

  pub acts_20 : b ≡ false → refused 20 ≡ acting
  acts_20 g = sym (act_20 (says l f m) s (sym (state_any l f m s) ∙ sym e ∙ g))

  module _ (g : b ≡ true) where
    good : state_ok (says l f m) s ≡ true
    good = sym (state_any l f m s) ∙ sym e ∙ g

    pub acts_15 : s.turn ≡ last_turn → refused 15 ≡ acting
    acts_15 t = sym (act_15 (says l f m) s good t)

    module _ (t : s.turn ≡ last_turn → ⊥) (v : ℕ) (ev : v ≡ l.delay) where
      pub acts_early : (w a : ℕ) (g : List ℕ) (r : TurnTaken) → 2 * s.turn < v → g ≡ f → w ≡ least_flagged (record { flags = g; masks = [] })
          → a ≡ digit l.actions ((v + 1) / 2) w s.turn → r ≡ record { action = a; state = acted_state l.delay s a } → accepted r ≡ acting
      acts_early w a g r h eg ew ea q =
          let o : 2 * s.turn < l.delay = omega arith in
          let c : digit l.actions (initial_length l.delay) (least_flagged (record { flags = f; masks = m })) s.turn ≡ a =
          ap₂ (λ d w. digit l.actions ((d + 1) / 2) w s.turn) (sym ev) (sym (ew ∙ ap (λ f. least_flagged (record { flags = f; masks = [] })) eg ∙ least_any f m)) ∙ sym ea in
          ap accepted q ∙ sym (act_answers (says l f m) s good t (early_known (says l f m) s o) a (early_choice (says l f m) s o ∙ ap some c))

      module _ (late : v ≤ 2 * s.turn) where
        abbrev w : Slot
        w = get_or s.window v unknown

        o : l.delay ≤ 2 * s.turn
        o = omega arith

        slot_is : w ≡ slot_at s l.delay
        unfolding slot_at
        slot_is = ap (λ d. get_or s.window d unknown) ev

        known_lem : needed_known (says l f m) s ≡ w.known
        known_lem = late_known (says l f m) s o ∙ ap (λ (w : Slot). w.known) (sym slot_is)

        pub acts_13 : observed_in w ≡ None → refused 13 ≡ acting
        acts_13 k = sym (act_13 (says l f m) s good t (known_lem ∙ unobserved w k))

        -- the needed observation is known, of position p; j is the masks' body, n the mask of the node
        module _ (p : ℕ) (k : observed_in w ≡ Some p) (j : List ℕ) (ej : j ≡ m) (n : ℕ)
            (en : n ≡ get_or j (p * l.actions ^ (l.delay / 2) + word_of l.actions (take (l.delay / 2) s.last)) 0) where
          needed : needed_known (says l f m) s ≡ true
          needed = known_lem ∙ (observed_is w p k).0

          mask_same : mask (says l f m) s ≡ n
          mask_same =
              ap₂
              (λ p j. get_or j (p * l.actions ^ (l.delay / 2) + word_of l.actions (take (l.delay / 2) s.last)) 0)
              (ap (λ (w : Slot). w.position) (sym slot_is) ∙ (observed_is w p k).1)
              (sym ej)
              ∙ sym en

          action_is : next_action (says l f m) s ≡ lowest_in l.actions n
          action_is = late_choice (says l f m) s o ∙ ap (lowest_in l.actions) mask_same

          pub acts_14 : n ≡ 0 → refused 14 ≡ acting
          acts_14 z = sym (act_14 (says l f m) s good t needed (action_is ∙ lowest_missing l.actions n z))

          pub acts_late : (a : ℕ) (r : TurnTaken) → (n ≡ 0 → ⊥) → Usable (says l f m) → a ≡ count_trailing_zeros 8 n
              → r ≡ record { action = a; state = acted_state l.delay s a } → accepted r ≡ acting
          acts_late a r z u ea q =
              let small : n < 2 ^ l.actions = rw (← mask_same) (u.small_masks _) in
              let c = lowest_trailing 8 l.actions n u.few_actions small z in
              ap accepted q
              ∙ sym (act_answers (says l f m) s good t needed a (action_is ∙ lowest_acts l.actions n z ∙ ap some (sym c ∙ sym ea)))

pub ruleset act_laws = (rules, turn_fits, turn_left, needed_slot, missing, slot_found, acts_20, acts_15, acts_early, acts_13, acts_14, acts_late)

-- a readable sheet

-- what an accepted reading says of the numbers and the masks
pub usable : (t : List ℕ) (x : TableSheet) → table_answer t ≡ accepted x → Usable x
usable t x e =
    let h = (table_accepted t x e).1 in
    record {
      some_action = h.some_action;
      few_actions = h.few_actions;
      short_delay = h.short_delay;
      small_masks = h.masks_small;
    }

observe_any : (l : TableLayout) (f m : List ℕ) (s : State) (k p : ℕ) → observe_with (says l [] []) s k p ≡ observe_with (says l f m) s k p
unfolding observe_with state_ok held_ok window_ok
observe_any l f m s k p = refl

-- y is the reading of the sheet t

module _ (t : List ℕ) (y : Result TableLayout Refusal) (ey : answer_by (table_at t) y ≡ table_answer t) (l : TableLayout) (el : y ≡ Ok l) where
  pub readable : table_answer t ≡ accepted (table_at t l)
  readable = by_accepted (table_at t) y _ ey l el

  pub read_usable : Usable (table_at t l)
  read_usable = usable t (table_at t l) readable

  pub read_short : l.delay ≤ most_delay
  read_short = (usable t (table_at t l) readable).short_delay

  pub observes_read : (s z : State) (k p : ℕ) → s ≡ z → observe_with (says l [] []) s k p ≡ observe_answer t z k p
  unfolding observe_answer on_accepted
  observes_read s z k p e =
      observe_any l (part_at t l.flags) (part_at t l.masks) s k p ∙ ap (λ s. observe_with (table_at t l) s k p) e ∙ rw readable

pub ruleset reading = (read_usable, read_short, observes_read)
