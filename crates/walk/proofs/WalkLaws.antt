-- What the walk over a node's actions and moves finds, and that it is theory's `spoilt_by` (specs/code/Walks.antt).
-- Assumes nothing.
use Prim.Native.Nat.{ℕ, suc, ◌+◌, ◌-◌, ◌*◌, ◌/◌, ◌%◌, ◌≤◌, ◌<◌}
use mathlib.Core.Path.{◌≡◌, refl, sym, ◌∙◌, ap, subst}
use mathlib.Core.Bool.{Bool, true, false}
use mathlib.Core.Logic.{⊎_elim}
use mathlib.Core.List.{List, [], ◌∷◌, map}
use Rattle.std.proofs.Common.{Option, Some, None, is_some}
use native.Mathlib.Omega.{arith}
use denote.Param.Members.{Mut}
use denote.Ref.{Bor}
use Rattle.std.specs.Bool.{⊤}
use Rattle.std.specs.Fn.{CalledAt}
use Rattle.std.specs.Iterator.{Yields, YieldsThen}
use Rattle.std.specs.Iterator.Adapters.{rev_source, rev_steps}
use Rattle.std.specs.List.{FoldsTo}
use Rattle.std.specs.Option.{MatchOption}
use Rattle.std.proofs.iter.runs.Sources.{nat_range_steps_back}
use native.Mathlib.Nat.{mod-lt, div-lt_iff_lt-mul}
use native.Mathlib.Numerals.{add-one}
use lib.ListN.{length, get_or}
use borrow.Author.Tests.{le-ltb}
use borrow.Author.Rules.{rules}
use Rattle.theory.specs.Fold.{either, all_below, any_of, last_with}
use Rattle.theory.specs.Game.{Target, absent, to, Game}
use Rattle.theory.specs.Rounds.{bad, spoilt_by}
use Rattle.theory.specs.Delay.{moved_to, played_to, outcomes, step}
use Rattle.theory.proofs.Fold.{bool, all_none, all_suc, all_done, below?, not_both, all_again, either_left, both_none, both_second}
use Rattle.theory.proofs.Fold.{either_second, all_short, any_of_map, last_here, last_passed, last_over, found_any}
use Rattle.sheet.specs.Kinds.{kind_at, is_safe, safe_at}
use Rattle.sheet.specs.code.Arrays.{to_at, tos_between, view_of}
use Rattle.walk.specs.declared.level.Level.{Level}
use Rattle.walk.specs.declared.walk.Choice.{Choice}
use Rattle.walk.specs.code.Levels.{arena_of}
use Rattle.walk.specs.code.Walks.{moving_from, moves_after, played_at, choice_at, outcome_by, outcome_at, spoils_on}
use Rattle.sheet.specs.Limits.{most_positions}

-- choosing

-- a safe position exists
safe_position : (p : List ℕ) (q : ℕ) → safe_at p q ≡ true → q < length p
unfolding safe_at kind_at is_safe
safe_position p q e =
    ⊎_elim
    (λ (h : q < length p). h)
    (λ (h : length p ≤ q). absurd (not_both (rw (le-ltb q (length p) h) at e) refl))
    (below? q (length p))

pub safe_small : (p : List ℕ) (q : ℕ) → safe_at p q ≡ true → length p ≤ most_positions → q < most_positions
safe_small p q e h = let k = safe_position p q e in omega arith

-- the search for the last line that spoils a choice

module _ (p : List ℕ) (g : List (List ℕ)) (u : List ℕ) (l : Level) (fallen : ℕ → Bool) (x : Choice) where
  abbrev last_below : ℕ → Option ℕ
  last_below = last_with (spoils_on p g u l fallen x) x.first

  pub line_found : (line : ℕ) {r : Bool} → last_below line ≡ last_below x.end → x.first < line
      → r ≡ bad fallen (outcome_at p g l x (to_at u (line - 1))) → r ≡ true → Some (line - 1) ≡ last_below x.end
  unfolding spoils_on
  line_found line e h b t = sym (last_here (spoils_on p g u l fallen x) x.first h b t) ∙ e

  pub line_passed : (line : ℕ) {r : Bool} → last_below line ≡ last_below x.end → x.first < line
      → r ≡ bad fallen (outcome_at p g l x (to_at u (line - 1))) → r ≡ false → last_below (line - 1) ≡ last_below x.end
  unfolding spoils_on
  line_passed line e h b t = sym (last_passed (spoils_on p g u l fallen x) x.first h b t) ∙ e

  pub lines_over : (line : ℕ) → last_below line ≡ last_below x.end → line ≤ x.first → None ≡ last_below x.end
  lines_over line e h = sym (last_over (spoils_on p g u l fallen x) x.first h) ∙ e

-- the same by `find` along a range turned round, p being the test

module _ {F : Type 0} {g : Mut F (Bor ℕ × Unit {0}) Bool} (p : ℕ → Bool) where
  found_last : (xs : List ℕ) (s t u : _) (f j : F) (r : Option ℕ) → Yields (rev_steps nat_range_steps_back) s xs t
      → rev_steps nat_range_steps_back t r u → FoldsTo (λ h x q. CalledAt g h x false q) f xs j
      → MatchOption r ⊤ (λ x. (h : F) × CalledAt g j x true h) → ((x : ℕ) (q : F) → CalledAt g f x true q → p x ≡ true) → ((x : ℕ) (q : F) → CalledAt g f x false q → (q ≡ f) × (p x ≡ false))
      → r ≡ last_with p (rev_source s).start (rev_source s).end
  found_last [] s t u f j None y z c m stops goes =
      rw y (sym (last_over p (rev_source t).start (omega (arith, z.1.0))))
  found_last [] s t u f j (Some x) y z c m stops goes =
      let at : x ≡ (rev_source t).end - 1 = omega (arith, z.1.1, z.1.2) in
      let b = stops x m.0 (subst (λ h. CalledAt g h x true m.0) (sym c) m.1) in
      rw y (ap Some at ∙ sym (last_here p (rev_source t).start (omega (arith, z.1.0)) (sym b ∙ ap p at) refl))
  found_last (x ∷ xs) s t u f j r y z c m stops goes =
      let at : x ≡ (rev_source s).end - 1 = omega (arith, y.1.1.1, y.1.1.2) in
      let below : (rev_source y.0).end ≡ (rev_source s).end - 1 = omega (arith, y.1.1.2) in
      let b = goes x c.0 c.1 in
      let left = found_last xs y.0 t u f j r y.2 z (subst (λ h. FoldsTo (λ i k q. CalledAt g i k false q) h xs j) b.0 c.2) m stops goes in
      (rw (y.1.0, below) at left) ∙ sym (last_passed p (rev_source s).start (omega (arith, y.1.1.0)) (sym b.1 ∙ ap p at) refl)

  pub last_found : (s u : _) (f : F) (r : Option ℕ)
      → (xs : List ℕ) × (j : F) × YieldsThen (rev_steps nat_range_steps_back) s xs r u × FoldsTo (λ h x q. CalledAt g h x false q) f xs j
      × MatchOption r ⊤ (λ x. (h : F) × CalledAt g j x true h) → ((x : ℕ) (q : F) → CalledAt g f x true q → p x ≡ true) → ((x : ℕ) (q : F) → CalledAt g f x false q → (q ≡ f) × (p x ≡ false))
      → r ≡ last_with p (rev_source s).start (rev_source s).end
  last_found s u f r d stops goes = found_last d.0 s d.2.0 u f d.1 r d.2.1 d.2.2 d.3 d.4 stops goes

-- a choice is spoilt if there is none or one of its lines spoils it

unfoldable pub spoilt_with : List ℕ → List (List ℕ) → List ℕ → Level → (ℕ → Bool) → Option Choice → Bool
spoilt_with p g u l fallen None = true
spoilt_with p g u l fallen (Some x) = any_of (λ r. bad fallen (outcome_at p g l x r)) (tos_between u x.first x.end)

module _ (p : List ℕ) (g : List (List ℕ)) (u f : List ℕ) (l : Level) (fallen : ℕ → Bool) where
  abbrev view : Game
  view = view_of p g u f l.start l.actions

  odd_spoilt : (q h w : ℕ) → l.odd ≡ true
      → any_of (bad fallen) (map (moved_to view l.words h w) (view.moves q)) ≡ spoilt_with p g u l fallen (Some (moving_from f h w q))
  unfolding spoilt_with outcome_at outcome_by view_of moved_to
  odd_spoilt q h w o = rw o (any_of_map (bad fallen) _ _)

  even_spoilt : (h w : ℕ) (t : Target) → l.odd ≡ false
      → any_of (bad fallen) (played_to view l.words w t) ≡ spoilt_with p g u l fallen (moves_after p f h w t)
  unfolding spoilt_with outcome_at outcome_by view_of played_to moves_after bad any_of either
  even_spoilt h w absent o = refl
  even_spoilt h w (to r) o =
      ⊎_elim
      (λ (s : safe_at p r ≡ true).
      rw (s, o) (any_of_map (bad fallen) (λ r'. to (r' * l.words + w)) (tos_between u (get_or f r 0) (get_or f (suc r) 0))))
      (λ (s : safe_at p r ≡ false). rw s)
      (bool (safe_at p r))

  by_parity : (q j : ℕ) (b : Bool) → l.odd ≡ b
      → any_of (bad fallen) (outcomes b view l.words q j)
      ≡ spoilt_with p g u l fallen (played_at b p g f q (j / l.words) (j % l.words))
  unfolding outcomes played_at view_of
  by_parity q j true o = odd_spoilt q (j / l.words) (j % l.words) o
  by_parity q j false o = even_spoilt (j / l.words) (j % l.words) _ o

  -- theory's `spoilt_by`, by the choice that the code makes
  pub chosen : (k c : ℕ) {r : Option Choice} → r ≡ choice_at p g f l (k / l.words) ((k % l.words) * l.actions + c)
      → spoilt_by (arena_of p g u f l) fallen k c ≡ spoilt_with p g u l fallen r
  unfolding spoilt_by arena_of step view_of choice_at
  chosen k c {r} e =
      by_parity (k / l.words) ((k % l.words) * l.actions + c) l.odd refl
      ∙ ap (spoilt_with p g u l fallen) (sym e)

module _ (p : List ℕ) (g : List (List ℕ)) (u f : List ℕ) (l : Level) (fallen : ℕ → Bool) (k : ℕ) where
  abbrev S : ℕ → Bool
  S = spoilt_by (arena_of p g u f l) fallen k

  abbrev last_of : Choice → Option ℕ
  last_of x = last_below p g u l fallen x x.end

  abbrev choice : ℕ → Option Choice
  choice c = choice_at p g f l (k / l.words) ((k % l.words) * l.actions + c)

  -- one action

  pub spoilt_blocked : (c : ℕ) → None ≡ choice c → true ≡ S c
  unfolding spoilt_with
  spoilt_blocked c e = sym (chosen p g u f l fallen k c e)

  pub spoilt_open : (c : ℕ) {x : Choice} → Some x ≡ choice c → is_some (last_of x) ≡ S c
  unfolding spoilt_with spoils_on tos_between
  spoilt_open c {x} e =
      found_any (λ r. bad fallen (outcome_at p g l x r)) (to_at u) x.first x.end
      ∙ sym (chosen p g u f l fallen k c e)

  -- all actions: a blocked one is passed

  pub walk_blocked : (c : ℕ) → all_below S c ≡ true → None ≡ choice c → all_below S (c + 1) ≡ true
  walk_blocked c e h = all_again S c e (spoilt_blocked c h) refl

  pub walk_open : (c : ℕ) (x : Choice) → all_below S c ≡ true → Some x ≡ choice c → all_below S (c + 1) ≡ is_some (last_of x)
  walk_open c x e h = rw (add-one c, all_suc S c) (both_second _ _ e ∙ sym (spoilt_open c h))

  -- a spoiling line ends an action, and an action without one ends the walk

  pub walk_spoilt : (c line : ℕ) (x : Choice) {r : Bool} → all_below S c ≡ true → Some x ≡ choice c
      → last_below p g u l fallen x line ≡ last_of x → x.first < line
      → r ≡ bad fallen (outcome_at p g l x (to_at u (line - 1))) → r ≡ true → all_below S (c + 1) ≡ true
  walk_spoilt c line x a e d h b t = walk_open c x a e ∙ ap is_some (sym (line_found p g u l fallen x line d h b t))

  pub walk_kept : (c n line : ℕ) (x : Choice) → all_below S c ≡ true → Some x ≡ choice c
      → last_below p g u l fallen x line ≡ last_of x → line ≤ x.first → c < n → false ≡ all_below S n
  walk_kept c n line x a e d h m =
      sym (all_short S (omega arith) (walk_open c x a e ∙ ap is_some (sym (lines_over p g u l fallen x line d h))))

  pub walk_done : (c n : ℕ) → all_below S c ≡ true → c ≤ n → n ≤ c → true ≡ all_below S n
  walk_done c n e h m = sym (all_done S h m e)

-- a node's position
pub node_small : {k m n p : ℕ} → k < n → n ≡ p * m → p ≤ most_positions → 0 < m → k / m < most_positions
node_small {k} {m} {n} {p} h e s z =
    let b : k / m < p = (div-lt_iff_lt-mul z).1 (rw e at h) in omega arith

pub ruleset searching = (rules, line_found, line_passed, lines_over)

pub ruleset walking = (rules, node_small, mod-lt, spoilt_blocked, spoilt_open)

pub ruleset walks =
    (rules, node_small, mod-lt, all_none, line_passed, walk_blocked, walk_spoilt, walk_kept, walk_done)
