-- Holding gates (specs/Holding.antt): what a completed game's targets are, that it is legal, and that its plays come to the same
-- positions. Every theorem over legal games speaks of it. Assumes nothing.
use Prim.Native.Nat.{ℕ, zero, suc, ◌<◌}
use mathlib.Core.Path.{◌≡◌, refl, sym, ◌∙◌, ap, fun_ext}
use mathlib.Core.Bool.{Bool, true, false, cond}
use mathlib.Core.Logic.{◌⊎◌, inl, inr, ⊎_elim}
use mathlib.Core.List.{List, Memᴰ}
use native.Mathlib.Omega.{arith}
use lib.Dec.{ltb, eqb}
use lib.ListN.{get_or}
use borrow.Author.Tests.{ltb-true, lt-ltb}
use Rattle.theory.specs.Fold.{both, either, any_below, any_of, tabulate}
use Rattle.theory.specs.Game.{Target, absent, to, Game, LegalTarget, Legal}
use Rattle.theory.specs.Holding.{or_else, held, completed}
use Rattle.theory.specs.Reach.{is_target, leads, mark_in, marks_after, reached}
use Rattle.theory.proofs.Fold.{not_both, same_test, any_holds, any_some}
use Rattle.theory.proofs.Turns.{absent_not_to, target_cases}

pub or_else_first : {t : Target} (u : Target) {q : ℕ} → t ≡ to q → or_else t u ≡ to q
unfolding or_else
or_else_first u e = rw e

pub or_else_second : {t : Target} (u : Target) → t ≡ absent → or_else t u ≡ u
unfolding or_else
or_else_second u e = rw e

module _ (n : ℕ) (t : ℕ → ℕ → Target) (p c : ℕ) where
  -- a target that is there stays
  pub held_own : (h : Bool) {q : ℕ} → t p c ≡ to q → held h n t p c ≡ to q
  unfolding held
  held_own true e = or_else_first _ e
  held_own false e = e

  -- a missing action of the game leads where action 0 does, nowhere too
  pub held_missing : t p c ≡ absent → c < n → held true n t p c ≡ t p 0
  unfolding held
  held_missing e h = or_else_second _ e ∙ rw (lt-ltb c n h)

  -- without a target of action 0 nothing changes
  pub held_none : (h : Bool) → t p 0 ≡ absent → held h n t p c ≡ t p c
  unfolding held
  held_none false e = refl
  held_none true e =
      ⊎_elim
      (λ (a : t p c ≡ absent). or_else_second _ a ∙ nothing (ltb c n) ∙ sym a)
      (λ (a : (q : ℕ) × (t p c ≡ to q)). or_else_first _ a.1 ∙ sym a.1)
      (target_cases (t p c))
    where
      nothing : (b : Bool) → cond b (t p 0) absent ≡ absent
      nothing true = e
      nothing false = refl

  -- so a target is the action's own or, of one of the game's actions, that of action 0
  pub held_from : (h : Bool) (q : ℕ) → held h n t p c ≡ to q → (t p c ≡ to q) ⊎ ((c < n) × (t p 0 ≡ to q))
  unfolding held
  held_from false q e = inl e
  held_from true q e =
      ⊎_elim
      (λ (a : t p c ≡ absent). inr (by (ltb c n) refl (sym (or_else_second _ a) ∙ e)))
      (λ (a : (r : ℕ) × (t p c ≡ to r)). inl (a.1 ∙ sym (or_else_first _ a.1) ∙ e))
      (target_cases (t p c))
    where
      by : (b : Bool) → ltb c n ≡ b → cond b (t p 0) absent ≡ to q → (c < n) × (t p 0 ≡ to q)
      by true i x = (ltb-true c n i, x)
      by false i x = absurd (absent_not_to x)

-- "Show what is common to both kinds of gate once": a completed game is legal, and every theorem is over legal games
module _ (h : Bool) (G : Game) (l : Legal G) where
  held_legal : (p c q : ℕ) → held h G.actions G.target p c ≡ to q → LegalTarget (completed h G) p c q
  held_legal p c q e =
      ⊎_elim
      (λ (own : G.target p c ≡ to q). by (l.targets p c q own) (l.targets p c q own).action)
      (λ (first : (c < G.actions) × (G.target p 0 ≡ to q)). by (l.targets p 0 q first.1) first.0)
      (held_from G.actions G.target p c h q e)
    where
      by : {x : ℕ} → LegalTarget G p x q → c < G.actions → LegalTarget (completed h G) p c q
      by t a =
          record {
            from_position = t.from_position;
            from_controller = t.from_controller;
            action = a;
            position = t.position;
            environment = t.environment;
          }

  pub completed_legal : Legal (completed h G)
  completed_legal =
      record {
        start_position = l.start_position;
        start_controller = l.start_controller;
        targets = held_legal;
        moves =
            λ p r m.
            let x = l.moves p r m in
            record {
              from_position = x.from_position;
              from_environment = x.from_environment;
              position = x.position;
              controller = x.controller;
            };
        live =
            λ p i.
            ⊎_elim
            (λ (x : (c : ℕ) × (q : ℕ) × (G.target p c ≡ to q)).
            inl (x.0, x.1, held_own G.actions G.target p x.0 h x.2))
            (λ (x : (r : ℕ) × Memᴰ r (G.moves p)). inr x)
            (l.live p i);
      }

-- a held target is one that action 0 leads to, so one move leads to the same positions, and plays come to the same ones
module _ (h : Bool) (G : Game) where
  hits : (q : ℕ) {t : Target} → is_target q t ≡ true → (r : ℕ) × (t ≡ to r)
  unfolding is_target
  hits q {t} e =
      ⊎_elim
      (λ (a : t ≡ absent). absurd (not_both e (ap (is_target q) a)))
      (λ (a : (r : ℕ) × (t ≡ to r)). a)
      (target_cases t)

  abbrev by_own : ℕ → ℕ → ℕ → Bool
  by_own p q c = is_target q (G.target p c)

  abbrev by_held : ℕ → ℕ → ℕ → Bool
  by_held p q c = is_target q (held h G.actions G.target p c)

  own_held : (p q : ℕ) → any_below (by_own p q) G.actions ≡ true → any_below (by_held p q) G.actions ≡ true
  own_held p q e =
      let f = any_some (by_own p q) G.actions e in
      let r = hits q f.2 in
      any_holds (by_held p q) f.0 G.actions f.1
      (rw (held_own G.actions G.target p f.0 h r.1) (rw r.1 at f.2))

  held_own_too : (p q : ℕ) → any_below (by_held p q) G.actions ≡ true → any_below (by_own p q) G.actions ≡ true
  held_own_too p q e =
      let f = any_some (by_held p q) G.actions e in
      let r = hits q f.2 in
      let hit : is_target q (to r.0) ≡ true = rw r.1 at f.2 in
      ⊎_elim
      (λ (own : G.target p f.0 ≡ to r.0). any_holds (by_own p q) f.0 G.actions f.1 (rw own hit))
      (λ (first : (f.0 < G.actions) × (G.target p 0 ≡ to r.0)).
      any_holds (by_own p q) 0 G.actions (omega (arith, f.1)) (rw first.1 hit))
      (held_from G.actions G.target p f.0 h r.0 r.1)

  leads_same : leads (completed h G) ≡ leads G
  unfolding leads
  leads_same =
      fun_ext
      (λ p. fun_ext (λ q. ap (λ b. either b (any_of (eqb q) (G.moves p))) (same_test _ _ (held_own_too p q) (own_held p q))))

  mark_same : (marks : List Bool) → mark_in (completed h G) marks ≡ mark_in G marks
  unfolding mark_in
  mark_same marks =
      fun_ext
      (λ q.
      ap (λ (l : ℕ → ℕ → Bool). either (get_or marks q false) (any_below (λ p. both (get_or marks p false) (l p q)) G.positions))
      leads_same)

  marks_same : (n : ℕ) → marks_after (completed h G) n ≡ marks_after G n
  unfolding marks_after
  marks_same zero = refl
  marks_same (suc n) =
      ap (λ m. tabulate (mark_in (completed h G) m) 0 G.positions) (marks_same n)
      ∙ ap (λ f. tabulate f 0 G.positions) (mark_same (marks_after G n))

  pub reached_same : reached (completed h G) ≡ reached G
  unfolding reached
  reached_same = rw (marks_same G.positions)
