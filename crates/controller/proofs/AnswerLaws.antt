-- Laws of specs/Controller.antt: each answer of observing and of acting, with the tests that lead to it. Assumes nothing.
use Prim.Native.Nat.{ℕ, ◌+◌, ◌-◌, ◌*◌, ◌≤◌, ◌<◌}
use mathlib.Core.Path.{◌≡◌, refl, sym, ◌∙◌, ap}
use mathlib.Core.Bool.{Bool, true, false, not}
use mathlib.Core.List.{List}
use native.Mathlib.Omega.{arith}
use borrow.Author.Tests.{leb-true, le-leb, lt-leb, eq-eqb, ne_eqb}
use Rattle.theory.specs.Answer.{Answer, refused, accepted, check, on_accepted}
use Rattle.theory.specs.Exact.{none, some}
use Rattle.theory.proofs.Answer.{accepted_same, check_passed, check_failed, check_accepted, accepted_on}
use Rattle.table.specs.TableSheet.{TableSheet, table_answer}
use Rattle.state.specs.State.{agrees, last_turn, slot_at, state_ok, observed, acted_state}
use Rattle.state.proofs.Repeat.{repeat_same}
use Rattle.controller.specs.code.Ages.{age_with}
use Rattle.controller.specs.Controller.{observe_with, obey, next_action, needed_known, act_with, observe_answer}
use Rattle.state.specs.declared.state.State.{State}

-- where a report goes, by its age; n is the newest index

module _ (highest d n k p : ℕ) where
  pub age_16 : highest < p → age_with highest d n k p ≡ refused 16
  unfolding age_with
  age_16 h = check_failed _ 16 _ (lt-leb p highest h)

  module _ (h : p ≤ highest) where
    pub age_17 : k + d < n → age_with highest d n k p ≡ refused 17
    unfolding age_with
    age_17 o = check_passed _ 16 _ (le-leb p highest h) ∙ check_failed _ 17 _ (lt-leb n (k + d) o)

    pub age_18 : n < k → age_with highest d n k p ≡ refused 18
    unfolding age_with
    age_18 u =
        check_passed _ 16 _ (le-leb p highest h) ∙ check_passed _ 17 _ (le-leb n (k + d) (omega arith)) ∙ check_failed _ 18 _ (lt-leb k n u)

    pub age_at : n ≤ k + d → k ≤ n → age_with highest d n k p ≡ accepted (n - k)
    unfolding age_with
    age_at l u = check_passed _ 16 _ (le-leb p highest h) ∙ check_passed _ 17 _ (le-leb n (k + d) l) ∙ check_passed _ 18 _ (le-leb k n u)

pub age_accepted : (highest d n k p age : ℕ) → age_with highest d n k p ≡ accepted age → (age ≡ n - k) × (age ≤ d)
unfolding age_with
age_accepted highest d n k p age e =
    let c = check_accepted _ 16 _ e in
    let b = check_accepted _ 17 _ c.1 in
    let f = check_accepted _ 18 _ b.1 in
    let g : n - k ≡ age = accepted_same f.1 in
    (sym g, omega (arith, leb-true n (k + d) b.0))

three_checks : {A B : Type 0} (a b c : Bool) (m : A) (f : A → Answer B)
    → check a 16 (check b 17 (check c 18 (f m))) ≡ on_accepted (check a 16 (check b 17 (check c 18 (accepted m)))) f
unfolding check on_accepted
three_checks true true true m f = refl
three_checks true true false m f = refl
three_checks true false c m f = refl
three_checks false b c m f = refl

-- observing, by the report's age

abbrev pub observed_at : State → ℕ → ℕ → Answer ℕ → Answer State
observed_at s k p a = on_accepted a (λ age. check (agrees (slot_at s age) p) 19 (accepted (observed s k p)))

module _ (x : TableSheet) (s : State) (k p : ℕ) where
  pub observe_20 : state_ok x s ≡ false → observe_with x s k p ≡ refused 20
  unfolding observe_with
  observe_20 bad = check_failed _ 20 _ bad

  module _ (good : state_ok x s ≡ true) where
    pub observe_aged : observe_with x s k p ≡ observed_at s k p (age_with x.highest x.delay (2 * s.turn) k p)
    unfolding observe_with age_with
    observe_aged =
        check_passed _ 20 _ good
        ∙ three_checks _ _ _ (2 * s.turn - k) (λ age. check (agrees (slot_at s age) p) 19 (accepted (observed s k p)))

    pub observe_16 : x.highest < p → observe_with x s k p ≡ refused 16
    unfolding on_accepted
    observe_16 h = observe_aged ∙ ap (observed_at s k p) (age_16 x.highest x.delay (2 * s.turn) k p h)

    pub observe_17 : p ≤ x.highest → k + x.delay < 2 * s.turn → observe_with x s k p ≡ refused 17
    unfolding on_accepted
    observe_17 h l = observe_aged ∙ ap (observed_at s k p) (age_17 x.highest x.delay (2 * s.turn) k p h l)

    pub observe_18 : p ≤ x.highest → 2 * s.turn < k → observe_with x s k p ≡ refused 18
    unfolding on_accepted
    observe_18 h u = observe_aged ∙ ap (observed_at s k p) (age_18 x.highest x.delay (2 * s.turn) k p h u)

    pub observe_accepts : p ≤ x.highest → 2 * s.turn ≤ k + x.delay → k ≤ 2 * s.turn → agrees (slot_at s (2 * s.turn - k)) p ≡ true
        → observe_with x s k p ≡ accepted (observed s k p)
    unfolding on_accepted
    observe_accepts h l u a =
        observe_aged ∙ ap (observed_at s k p) (age_at x.highest x.delay (2 * s.turn) k p h l u) ∙ check_passed _ 19 _ a

-- what an accepted observation has passed
pub record Observable (x : TableSheet) (s : State) (k p : ℕ) : Type 0 where
  pub good : state_ok x s ≡ true
  pub low : p ≤ x.highest
  pub not_old : 2 * s.turn ≤ k + x.delay
  pub not_new : k ≤ 2 * s.turn
  pub same : agrees (slot_at s (2 * s.turn - k)) p ≡ true

pub observe_with_accepted : (x : TableSheet) (s : State) (k p : ℕ) (n : State) → observe_with x s k p ≡ accepted n
    → Observable x s k p × (observed s k p ≡ n)
unfolding observe_with
observe_with_accepted x s k p n e =
    let b = check_accepted _ 20 _ e in
    let c = check_accepted _ 16 _ b.1 in
    let d = check_accepted _ 17 _ c.1 in
    let f = check_accepted _ 18 _ d.1 in
    let g = check_accepted _ 19 _ f.1 in (
      record {
        good = b.0;
        low = leb-true p x.highest c.0;
        not_old = leb-true (2 * s.turn) (k + x.delay) d.0;
        not_new = leb-true k (2 * s.turn) f.0;
        same = g.0;
      },
      accepted_same g.1,
    )

pub observe_accepted : (t : List ℕ) (s : State) (k p : ℕ) (n : State) → observe_answer t s k p ≡ accepted n
    → (x : TableSheet) × (table_answer t ≡ accepted x) × Observable x s k p × (observed s k p ≡ n)
unfolding observe_answer
observe_accepted t s k p n e =
    let a = accepted_on (table_answer t) _ e in
    let b = observe_with_accepted a.0 s k p n a.2 in
    (a.0, a.1, b.0, b.1)

-- "A repeat with the same position is accepted and changes nothing"
pub repeat_leaves_state : (t : List ℕ) (s : State) (k p : ℕ) (n : State) → (slot_at s (2 * s.turn - k)).known ≡ true
    → observe_answer t s k p ≡ accepted n → n ≡ s
repeat_leaves_state t s k p n known e =
    let o = observe_accepted t s k p n e in
    sym o.3 ∙ repeat_same s k p known o.2.same

module _ (x : TableSheet) (s : State) where
  pub act_20 : state_ok x s ≡ false → act_with x s ≡ refused 20
  unfolding act_with
  act_20 bad = check_failed _ 20 _ bad

  module _ (good : state_ok x s ≡ true) where
    pub act_15 : s.turn ≡ last_turn → act_with x s ≡ refused 15
    unfolding act_with
    act_15 e = check_passed _ 20 _ good ∙ check_failed _ 15 _ (ap not (eq-eqb s.turn last_turn e))

    module _ (more : s.turn ≡ last_turn → ⊥) where
      pub act_13 : needed_known x s ≡ false → act_with x s ≡ refused 13
      unfolding act_with
      act_13 r =
          check_passed _ 20 _ good ∙ check_passed _ 15 _ (ap not (ne_eqb s.turn last_turn more)) ∙ check_failed _ 13 _ r

      module _ (r : needed_known x s ≡ true) where
        act_obeys : act_with x s ≡ obey x s (next_action x s)
        unfolding act_with
        act_obeys =
            check_passed _ 20 _ good ∙ check_passed _ 15 _ (ap not (ne_eqb s.turn last_turn more)) ∙ check_passed _ 13 _ r

        pub act_14 : next_action x s ≡ none → act_with x s ≡ refused 14
        unfolding obey
        act_14 e = act_obeys ∙ ap (obey x s) e

        pub act_answers : (a : ℕ) → next_action x s ≡ some a
            → act_with x s ≡ accepted (record { action = a; state = acted_state x.delay s a })
        unfolding obey
        act_answers a e = act_obeys ∙ ap (obey x s) e
