-- A yard with positions closed has the yard's rules, plays and true reports: none of them asks which positions are safe. Assumes nothing.
use Prim.Native.Nat.{ℕ, zero, suc}
use mathlib.Core.Path.{◌≡◌, refl, sym, subst}
use mathlib.Core.List.{List, [], ◌∷◌}
use Rattle.theory.specs.Game.{Game}
use Rattle.theory.specs.Play.{Play, IsPlay, begun, acted, moved, Rule, IsRule}
use Rattle.theory.specs.Exact.{MaybeAction, none, some, Run, going, ended, advance, turn_by, play_by, exact_choice, exact, worked}
use Rattle.theory.specs.Table.{Table}
use Rattle.theory.specs.Closing.{close}
use Rattle.table.specs.TableSheet.{decode}
use Rattle.controller.specs.Accuracy.{Call, observe, observe_all, act, Progress, call_step, HasAt, TrueReport, TrueReports, IsTrueCall, Truthful}
use Rattle.controller.specs.declared.calls.Observation.{Observation}

module _ (G : Game) (ps : List ℕ) (rule : Rule) where
  open_play : {π : Play} → IsPlay (close G ps) π → IsPlay G π
  unfolding close
  open_play begun = begun
  open_play (acted c q p e) = acted c q (open_play p) e
  open_play (moved r p m) = moved r (open_play p) m

  pub close_rule : IsRule G rule → IsRule (close G ps) rule
  unfolding close
  close_rule is π p e = is π (open_play p) e

  advance_same : (π : Play) (c : MaybeAction) → advance (close G ps) rule π c ≡ advance G rule π c
  unfolding close advance
  advance_same π none = refl
  advance_same π (some c) = refl

  -- one turn, and any number of them, by an action for each play
  turn_same : (choose : Play → MaybeAction) (r : Run) → turn_by (close G ps) rule choose r ≡ turn_by G rule choose r
  unfolding turn_by
  turn_same choose (ended π) = refl
  turn_same choose (going π) = advance_same π (choose π)

  play_same : (choose : Play → MaybeAction) (n : ℕ) → play_by (close G ps) rule choose n ≡ play_by G rule choose n
  unfolding play_by
  play_same choose zero = refl
  play_same choose (suc n) = rw (play_same choose n) (turn_same choose (play_by G rule choose n))

  pub exact_same : (d : ℕ) (T : Table) (n : ℕ) → exact (close G ps) d T rule n ≡ exact G d T rule n
  unfolding exact exact_choice close
  exact_same d T n = play_same (exact_choice G d T) n

  pub worked_same : (actions : List ℕ) → worked (close G ps) rule actions ≡ worked G rule actions
  unfolding worked
  worked_same [] = refl
  worked_same (c ∷ earlier) = rw (worked_same earlier) (turn_same (λ π. some c) (worked G rule earlier))

  close_report : (d : ℕ) (actions : List ℕ) (k p : ℕ) → TrueReport G d rule actions k p → TrueReport (close G ps) d rule actions k p
  unfolding close
  close_report d actions k p h l u = subst (λ (r : Run). HasAt G r k p) (sym (worked_same actions)) (h l u)

  close_reports : (d : ℕ) (actions : List ℕ) (os : List Observation) → TrueReports G d rule actions os
      → TrueReports (close G ps) d rule actions os
  unfolding TrueReports
  close_reports d actions [] h = tt
  close_reports d actions (o ∷ later) h =
      (close_report d actions o.index o.position h.0, close_reports d actions later h.1)

  module _ (t : List ℕ) where
    close_true : (s : Progress) (c : Call) → IsTrueCall G t rule s c → IsTrueCall (close G ps) t rule s c
    close_true s (observe k p) h = close_report (decode t).delay s.actions k p h
    close_true s (observe_all os) h = close_reports (decode t).delay s.actions os h
    close_true s act h = tt

    pub close_truthful : (s : Progress) (calls : List Call) → Truthful G t rule s calls → Truthful (close G ps) t rule s calls
    unfolding Truthful
    close_truthful s [] h = tt
    close_truthful s (c ∷ later) h = (close_true s c h.0, close_truthful (call_step t s c) later h.1)
