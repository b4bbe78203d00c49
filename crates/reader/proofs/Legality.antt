-- An accepted game sheet means a legal game (Definition 1), and its targets can be read off the grid. Assumes nothing.
use Prim.Native.Nat.{ℕ, zero, suc, ◌+◌, ◌-◌, ◌*◌, ◌/◌, ◌≤◌, ◌<◌}
use mathlib.Core.Path.{◌≡◌, refl, sym, ◌∙◌, ap, fun_ext}
use mathlib.Core.Bool.{true, false, cond}
use mathlib.Core.Logic.{◌⊎◌, inl, inr, ⊎_elim}
use mathlib.Core.List.{List, [], ◌∷◌, Memᴰ}
use native.Mathlib.Omega.{arith}
use lib.Dec.{eqb, ltb}
use lib.ListN.{length, get_or}
use borrow.Author.Tests.{ltb-true, lt-ltb, le-ltb, eqb-true, eq-eqb, ne_eqb}
use Rattle.theory.specs.Fold.{both}
use Rattle.theory.specs.Answer.{accepted}
use Rattle.theory.specs.Game.{Target, absent, to, Legal, LegalTarget, LegalMove}
use Rattle.theory.specs.Holding.{held}
use Rattle.theory.proofs.Holding.{completed_legal}
use Rattle.theory.proofs.Turns.{absent_not_to, target_cases}
use Rattle.theory.proofs.Fold.{bool, not_both, both_true, both_left, both_right, all_at, any_some, below_cases, below?, either_second}
use Rattle.std.specs.Prelude.{Option, None, Some}
use Rattle.sheet.specs.Kinds.{kind_at, is_controller, is_environment, controller_at, environment_at}
use Rattle.reader.specs.Checks.{key_at, target_ok, targets_ok, move_ok, moves_ok, rises_at, begins_at, has_line, leaves_at, all_leave}
use Rattle.sheet.specs.Bodies.{positions_body, targets_body, moves_body, is_holding, start_of, action_count}
use Rattle.gates.specs.code.Held.{held_grid}
use Rattle.gates.proofs.HoldLaws.{held_means}
use Rattle.reader.specs.Reading.{read_answer}
use Rattle.sheet.specs.SheetGame.{is_line, target_in, target_of, moves_in, moves_of, written_game, game_of}
use Rattle.reader.specs.code.Steps.{Checked}
use Rattle.sheet.specs.code.Arrays.{mark_of, unmark, grid_of, target_at, absent_mark}
use Rattle.sheet.proofs.GridLaws.{target_next, cell_at, row_at}
use Rattle.reader.proofs.Accepted.{read_is, ranges}
use Rattle.sheet.specs.declared.kinds.Kind.{Kind}
use Rattle.reader.specs.declared.reading.Layout.{Layout}
use Rattle.sheet.specs.Limits.{most_positions, most_actions}

-- kinds of positions

module _ (p : List ℕ) (q : ℕ) where
  none_outside : length p ≤ q → kind_at p q ≡ None
  unfolding kind_at
  none_outside h = rw (le-ltb _ _ h)

  pub controller_inside : controller_at p q ≡ true → q < length p
  unfolding controller_at is_controller
  controller_inside e =
      ⊎_elim (λ (l : q < length p). l) (λ (g : length p ≤ q). absurd (not_both (rw (none_outside g) at e) refl)) (below? q (length p))

  pub environment_inside : environment_at p q ≡ true → q < length p
  unfolding environment_at is_environment
  environment_inside e =
      ⊎_elim (λ (l : q < length p). l) (λ (g : length p ≤ q). absurd (not_both (rw (none_outside g) at e) refl)) (below? q (length p))

one_side : (k : Option Kind) → is_environment k ≡ true → is_controller k ≡ false
unfolding is_controller is_environment
one_side (Some kind) e =
    ⊎_elim (λ (t : kind.controller ≡ true). absurd (not_both e (rw t))) (λ (n : kind.controller ≡ false). n) (bool kind.controller)
one_side None e = refl

pub environment_not : (p : List ℕ) (q : ℕ) → environment_at p q ≡ true → controller_at p q ≡ false
unfolding controller_at environment_at
environment_not p q e = one_side (kind_at p q) e

-- what a target comes from: a line of the C body

module _ (c : List ℕ) (q x : ℕ) where
  -- line k is about q and x, and leads to t
  pub record Line (t n k : ℕ) : Type 0 where
    pub below : k < n
    pub is_line_lem : is_line c q x k ≡ true
    pub leads : t ≡ get_or c (3 * k + 2) 0

  to_same : {t u : ℕ} → to u ≡ to t → t ≡ u
  to_same e = cc

  line_last : (t n : ℕ) → target_in c q x (suc n) ≡ to t → is_line c q x n ≡ true → (k : ℕ) × Line t (suc n) k
  line_last t n e h =
      (n, record { below = omega arith; is_line_lem = h; leads = to_same (rw (target_next c n q x, h) at e) })

  pub line_of : (t n : ℕ) → target_in c q x n ≡ to t → (k : ℕ) × Line t n k
  unfolding target_in
  line_of t zero e = absurd (absent_not_to e)
  line_of t (suc n) e =
      ⊎_elim
      (λ (h : is_line c q x n ≡ true). line_last t n e h)
      (λ (f : is_line c q x n ≡ false).
      let r = line_of t n (rw f at e) in
      (r.0, record { below = omega (arith, r.1.below); is_line_lem = r.1.is_line_lem; leads = r.1.leads }))
      (bool (is_line c q x n))

  -- a line of q and x among the first n gives them a target
  pub line_target_lem : (n k : ℕ) → k < n → is_line c q x k ≡ true → (t : ℕ) × (target_in c q x n ≡ to t)
  line_target_lem zero k h e = absurd (omega arith)
  line_target_lem (suc n) k h e =
      ⊎_elim
      (λ (t : is_line c q x n ≡ true). (get_or c (3 * n + 2) 0, rw (target_next c n q x, t)))
      (λ (f : is_line c q x n ≡ false).
      ⊎_elim
      (λ (l : k < n). let r = line_target_lem n k l e in (r.0, rw (target_next c n q x, f) r.1))
      (λ (m : k ≡ n). absurd (not_both (rw m at e) f))
      (below_cases h))
      (bool (is_line c q x n))

-- what a move comes from: a line of the U body

module _ (u : List ℕ) (q : ℕ) where
  moves_next : (i n : ℕ) → moves_in u q i (suc n)
      ≡ cond (eqb (get_or u (2 * i) 0) q) (get_or u (2 * i + 1) 0 ∷ moves_in u q (suc i) n) (moves_in u q (suc i) n)
  unfolding moves_in
  moves_next i n = refl

  -- line k, of those from i, begins with q and leads to r
  pub record MoveLine (r i n k : ℕ) : Type 0 where
    pub below : k < i + n
    pub from : get_or u (2 * k) 0 ≡ q
    pub leads : r ≡ get_or u (2 * k + 1) 0

  later : (r i n k : ℕ) → MoveLine r (suc i) n k → MoveLine r i (suc n) k
  later r i n k m = record { below = omega (arith, m.below); from = m.from; leads = m.leads }

  pub move_of : (r i n : ℕ) → Memᴰ r (moves_in u q i n) → (k : ℕ) × MoveLine r i n k
  unfolding moves_in
  move_of r i zero m = absurd (mathlib.Core.List.Memᴰ.not-nil m)
  move_of r i (suc n) m =
      ⊎_elim
      (λ (t : eqb (get_or u (2 * i) 0) q ≡ true).
      ⊎_elim
      (λ (e : r ≡ get_or u (2 * i + 1) 0). (i, record { below = omega arith; from = eqb-true _ _ t; leads = e }))
      (λ (l : Memᴰ r (moves_in u q (suc i) n)). let k = move_of r (suc i) n l in (k.0, later r i n k.0 k.1))
      (mathlib.Core.List.Memᴰ.cases_cons (rw t at m)))
      (λ (f : eqb (get_or u (2 * i) 0) q ≡ false). let k = move_of r (suc i) n (rw f at m) in (k.0, later r i n k.0 k.1))
      (bool (eqb (get_or u (2 * i) 0) q))

  passed_by : (i k : ℕ) → eqb (get_or u (2 * i) 0) q ≡ false → get_or u (2 * k) 0 ≡ q → (i ≡ k → ⊥)
  passed_by i k f e s = not_both (eq-eqb (get_or u (2 * i) 0) q (ap (λ (j : ℕ). get_or u (2 * j) 0) s ∙ e)) f

  -- a line of q gives it a move
  pub line_move : (i n k : ℕ) → i ≤ k → k < i + n → get_or u (2 * k) 0 ≡ q → (r : ℕ) × Memᴰ r (moves_in u q i n)
  line_move i zero k l h e = absurd (omega arith)
  line_move i (suc n) k l h e =
      ⊎_elim
      (λ (t : eqb (get_or u (2 * i) 0) q ≡ true).
      (get_or u (2 * i + 1) 0, rw (moves_next i n, t) (mathlib.Core.List.Memᴰ.head refl)))
      (λ (f : eqb (get_or u (2 * i) 0) q ≡ false).
      let r = line_move (suc i) n k (omega (arith, passed_by i k f e)) (omega arith) e in
      (r.0, rw (moves_next i n, f) r.1))
      (bool (eqb (get_or u (2 * i) 0) q))

-- what the checks say of a line

module _ (p : List ℕ) (a : ℕ) (c : List ℕ) (ok : targets_ok p a c ≡ true) (k : ℕ) (h : k < length c / 3) where
  pub record TargetLine : Type 0 where
    pub from : controller_at p (get_or c (3 * k) 0) ≡ true
    pub action : get_or c (3 * k + 1) 0 < a
    pub target : environment_at p (get_or c (3 * k + 2) 0) ≡ true
    pub rises : rises_at 3 c k ≡ true

  line_ok : target_ok p a c k ≡ true
  unfolding targets_ok
  line_ok = all_at (target_ok p a c) (length c / 3) (both_right _ _ ok) k h

  pub target_line : TargetLine
  unfolding target_ok
  target_line =
      let b = both_right _ _ line_ok in
      let d = both_right _ _ b in
      record {
        from = both_left _ _ line_ok;
        action = ltb-true _ _ (both_left _ _ b);
        target = both_left _ _ d;
        rises = both_right _ _ d;
      }

module _ (p u : List ℕ) (ok : moves_ok p u ≡ true) (k : ℕ) (h : k < length u / 2) where
  pub record EnvironmentLine : Type 0 where
    pub from : environment_at p (get_or u (2 * k) 0) ≡ true
    pub target : controller_at p (get_or u (2 * k + 1) 0) ≡ true
    pub rises : rises_at 2 u k ≡ true

  move_line_ok : move_ok p u k ≡ true
  unfolding moves_ok
  move_line_ok = all_at (move_ok p u) (length u / 2) (both_right _ _ (both_right _ _ ok)) k h

  pub environment_line : EnvironmentLine
  unfolding move_ok
  environment_line =
      let b = both_right _ _ move_line_ok in
      record { from = both_left _ _ move_line_ok; target = both_left _ _ b; rises = both_right _ _ b }

-- the accepted sheet

module _ (s : List ℕ) (r : Checked s) where
  legal_target : (p x q : ℕ) → target_of (targets_body s) p x ≡ to q → LegalTarget (written_game s) p x q
  unfolding target_of is_line
  legal_target p x q e =
      let found = line_of (targets_body s) p x q (length (targets_body s) / 3) e in
      let k = found.0 in
      let line = target_line (positions_body s) (action_count s) (targets_body s) r.targets k found.1.below in
      let from : get_or (targets_body s) (3 * k) 0 ≡ p = eqb-true _ _ (both_left _ _ found.1.is_line_lem) in
      let action : get_or (targets_body s) (3 * k + 1) 0 ≡ x = eqb-true _ _ (both_right _ _ found.1.is_line_lem) in
      let own : controller_at (positions_body s) p ≡ true = rw from at line.from in
      let environment : environment_at (positions_body s) q ≡ true = rw found.1.leads line.target in
      record {
        from_position = controller_inside (positions_body s) p own;
        from_controller = own;
        action = rw action at line.action;
        position = environment_inside (positions_body s) q environment;
        environment = environment_not (positions_body s) q environment;
      }

  legal_move : (p q : ℕ) → Memᴰ q (moves_of (moves_body s) p) → LegalMove (written_game s) p q
  unfolding moves_of
  legal_move p q m =
      let found = move_of (moves_body s) p q 0 (length (moves_body s) / 2) m in
      let k = found.0 in
      let below : k < length (moves_body s) / 2 = omega (arith, found.1.below) in
      let line = environment_line (positions_body s) (moves_body s) r.moves k below in
      let environment : environment_at (positions_body s) p ≡ true = rw found.1.from at line.from in
      let own : controller_at (positions_body s) q ≡ true = rw found.1.leads line.target in
      record {
        from_position = environment_inside (positions_body s) p environment;
        from_environment = environment_not (positions_body s) p environment;
        position = controller_inside (positions_body s) q own;
        controller = own;
      }

  leaves : (p : ℕ) → p < length (positions_body s) → leaves_at (positions_body s) (targets_body s) (moves_body s) p ≡ true
  unfolding all_leave
  leaves = all_at (leaves_at (positions_body s) (targets_body s) (moves_body s)) (length (positions_body s)) r.leave

  begun : (w : ℕ) (b : List ℕ) (n q : ℕ) → has_line w b n q ≡ true → (k : ℕ) × (k < n) × (get_or b (w * k) 0 ≡ q)
  unfolding has_line begins_at
  begun w b n q e = let f = any_some (begins_at w b q) n e in (f.0, f.1, eqb-true _ _ f.2)

  live_own : (p : ℕ) → has_line 3 (targets_body s) (length (targets_body s) / 3) p ≡ true
      → (x : ℕ) × (q : ℕ) × (target_of (targets_body s) p x ≡ to q)
  unfolding target_of is_line
  live_own p e =
      let f = begun 3 (targets_body s) (length (targets_body s) / 3) p e in
      let x = get_or (targets_body s) (3 * f.0 + 1) 0 in
      let line = line_target_lem (targets_body s) p x (length (targets_body s) / 3) f.0 f.1
      (both_true _ _ (eq-eqb _ _ f.2) (eq-eqb x x refl)) in
      (x, line.0, line.1)

  live_environment : (p : ℕ) → has_line 2 (moves_body s) (length (moves_body s) / 2) p ≡ true
      → (q : ℕ) × Memᴰ q (moves_of (moves_body s) p)
  unfolding moves_of
  live_environment p e =
      let f = begun 2 (moves_body s) (length (moves_body s) / 2) p e in
      line_move (moves_body s) p 0 (length (moves_body s) / 2) f.0 (omega arith) (omega (arith, f.1)) f.2

  live_at : (p : ℕ) → p < length (positions_body s)
      → ((x : ℕ) × (q : ℕ) × (target_of (targets_body s) p x ≡ to q)) ⊎ ((q : ℕ) × Memᴰ q (moves_of (moves_body s) p))
  unfolding leaves_at
  live_at p h =
      ⊎_elim
      (λ (t : controller_at (positions_body s) p ≡ true). inl (live_own p (rw t at (leaves p h))))
      (λ (f : controller_at (positions_body s) p ≡ false). inr (live_environment p (rw f at (leaves p h))))
      (bool (controller_at (positions_body s) p))

  legal_written : Legal (written_game s)
  legal_written =
      record {
        start_position = controller_inside (positions_body s) (start_of s) (ranges s r).own_start;
        start_controller = (ranges s r).own_start;
        targets = legal_target;
        moves = legal_move;
        live = live_at;
      }

  pub legal : Legal (game_of s)
  unfolding game_of
  legal = completed_legal (is_holding s) (written_game s) legal_written

  -- reading the grid

  unmarked : (t : Target) → ((q : ℕ) → t ≡ to q → q < most_positions) → unmark (mark_of t) ≡ t
  unfolding unmark mark_of
  unmarked absent f = refl
  unmarked (to q) f = rw (ne_eqb q absent_mark (λ e. omega (arith, f q refl)))

  small_target : (p x q : ℕ) → target_of (targets_body s) p x ≡ to q → q < most_positions
  small_target p x q e = omega (arith, (legal_target p x q e).position, (ranges s r).few_positions)

  outside : (p x : ℕ) → both (ltb p most_positions) (ltb x most_actions) ≡ false → target_of (targets_body s) p x ≡ absent
  outside p x f =
      ⊎_elim
      (λ (e : target_of (targets_body s) p x ≡ absent). e)
      (λ (found : (q : ℕ) × (target_of (targets_body s) p x ≡ to q)).
      let l = legal_target p x found.0 found.1 in
      let position : p < most_positions = omega (arith, l.from_position, (ranges s r).few_positions) in
      let action : x < most_actions = omega (arith, l.action, (ranges s r).few_actions) in
      absurd (not_both (both_true _ _ (lt-ltb _ _ position) (lt-ltb _ _ action)) f))
      (target_cases (target_of (targets_body s) p x))

  inside : (p x : ℕ) → p < most_positions → x < most_actions
      → target_of (targets_body s) p x ≡ unmark (get_or (get_or (grid_of (targets_body s)) p []) x 0)
  unfolding grid_of target_of
  inside p x h l =
      rw (row_at (targets_body s) (length (targets_body s) / 3) p h, cell_at (targets_body s) (length (targets_body s) / 3) p x l)
      (sym (unmarked (target_of (targets_body s) p x) (small_target p x)))

  -- the targets on the lines are what the grid of the C body says, at every position and action
  line_read : (p x : ℕ) → target_of (targets_body s) p x ≡ target_at (grid_of (targets_body s)) p x
  unfolding target_at
  line_read p x =
      ⊎_elim
      (λ (t : both (ltb p most_positions) (ltb x most_actions) ≡ true).
      rw t (inside p x (ltb-true _ _ (both_left _ _ t)) (ltb-true _ _ (both_right _ _ t))))
      (λ (f : both (ltb p most_positions) (ltb x most_actions) ≡ false). rw f (outside p x f))
      (bool (both (ltb p most_positions) (ltb x most_actions)))

  -- and the targets of the game what the completed one says
  pub target_read : (p x : ℕ) → (game_of s).target p x ≡ target_at (held_grid (is_holding s) (action_count s) (targets_body s)) p x
  unfolding game_of
  target_read p x =
      ap (λ (t : ℕ → ℕ → Target). held (is_holding s) (action_count s) t p x) (fun_ext (λ q. fun_ext (line_read q)))
      ∙ sym (held_means (is_holding s) (action_count s) (targets_body s) (ranges s r).few_actions p x)

-- the lines of the C and U bodies, for those who walk them

module _ (w : ℕ) (b : List ℕ) where
  pub rises_next : (k : ℕ) → rises_at w b (suc k) ≡ true → key_at b (w * k) < key_at b (w * suc k)
  unfolding rises_at
  rises_next k e =
      let same : suc k - 1 ≡ k = omega arith in
      ltb-true _ _ (rw (either_second (eqb (suc k) 0) _ (ne_eqb (suc k) 0 (λ z. omega arith)), same) at e)

module _ (s : List ℕ) (r : Checked s) where
  -- the keys of the U body rise from each line to the next
  pub moves_rise : (k : ℕ) → suc k < length (moves_body s) / 2 → key_at (moves_body s) (2 * k) < key_at (moves_body s) (2 * suc k)
  moves_rise k h =
      rises_next 2 (moves_body s) k (environment_line (positions_body s) (moves_body s) r.moves (suc k) h).rises

  -- and those of the C body
  pub targets_rise : (k : ℕ) → suc k < length (targets_body s) / 3
      → key_at (targets_body s) (3 * k) < key_at (targets_body s) (3 * suc k)
  targets_rise k h =
      rises_next 3 (targets_body s) k
      (target_line (positions_body s) (action_count s) (targets_body s) r.targets (suc k) h).rises

  -- so the positions that its lines begin with never fall
  pub moves_ordered : (k : ℕ) → suc k < length (moves_body s) / 2 → get_or (moves_body s) (2 * k) 0 ≤ get_or (moves_body s) (2 * suc k) 0
  unfolding key_at
  moves_ordered k h =
      let line = environment_line (positions_body s) (moves_body s) r.moves (suc k) h in
      omega (
        arith,
        moves_rise k h,
        (ranges s r).few_positions,
        controller_inside (positions_body s) (get_or (moves_body s) (2 * suc k + 1) 0) line.target,
      )

pub legal_game : (s : List ℕ) (l : Layout) → read_answer s ≡ accepted l → Legal (game_of s)
legal_game s l e = legal s (read_is s l e).0
