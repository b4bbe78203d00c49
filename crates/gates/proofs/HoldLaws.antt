-- The completed grid, as the code of src/hold.rt makes it, and that its targets are the held ones. Assumes nothing.
use Prim.Native.Nat.{ℕ, ◌≤◌, ◌<◌}
use mathlib.Core.Path.{◌≡◌, refl, sym, ◌∙◌, ap}
use mathlib.Core.Bool.{Bool, true, false, cond}
use mathlib.Core.Logic.{⊎_elim}
use mathlib.Core.List.{List, []}
use native.Mathlib.Omega.{arith}
use lib.Dec.{ltb}
use lib.ListN.{length, get_or}
use lib.Seq.{ext_get_or}
use borrow.Author.Rules.{rules}
use borrow.Author.Tests.{eq-eqb, ne_eqb, lt-ltb, le-ltb}
use Rattle.theory.specs.Game.{absent}
use Rattle.theory.specs.Holding.{or_else, held}
use Rattle.theory.proofs.Fold.{same?, below?, both_none, both_false, both_true, both_second, length_tabulate, get_d_tabulate}
use Rattle.theory.proofs.Filling.{filled, filled_none, filled_more, filled_rest, filled_done}
use Rattle.theory.proofs.Holding.{or_else_first, or_else_second}
use Rattle.sheet.specs.Limits.{most_positions, most_actions}
use Rattle.sheet.specs.code.Arrays.{absent_mark, unmark, grid_of, target_at}
use Rattle.sheet.proofs.GridLaws.{unmark_absent, unmark_to, target_past, target_no_action, target_in_lem}
use Rattle.gates.specs.code.Held.{cell_held, row_held, row_held_at, grid_held, held_grid}

-- one cell

module _ (actions : ℕ) (row : List ℕ) (x : ℕ) where
  pub cell_own : (get_or row x 0 ≡ absent_mark → ⊥) → get_or row x 0 ≡ cell_held actions row x
  unfolding cell_held
  cell_own n = rw (both_none _ (ltb x actions) (ne_eqb _ _ n))

  pub cell_beyond : actions ≤ x → get_or row x 0 ≡ cell_held actions row x
  unfolding cell_held
  cell_beyond h = rw (both_false _ _ (le-ltb x actions h))

  pub cell_first : get_or row x 0 ≡ absent_mark → x < actions → get_or row 0 0 ≡ cell_held actions row x
  unfolding cell_held
  cell_first e h = rw (both_true _ _ (eq-eqb _ _ e) (lt-ltb x actions h))

-- a row, and all of them

still_cell : (actions : ℕ) (row : List ℕ) (x : ℕ) → get_or row 0 0 ≡ absent_mark → cell_held actions row x ≡ get_or row x 0
still_cell actions row x e =
    ⊎_elim
    (λ (a : get_or row x 0 ≡ absent_mark).
    ⊎_elim
    (λ (h : x < actions). sym (cell_first actions row x a h) ∙ e ∙ sym a)
    (λ (h : actions ≤ x). sym (cell_beyond actions row x h))
    (below? x actions))
    (λ (n : get_or row x 0 ≡ absent_mark → ⊥). sym (cell_own actions row x n))
    (same? (get_or row x 0) absent_mark)

pub row_still : (actions : ℕ) (row : List ℕ) → length row ≡ most_actions → get_or row 0 0 ≡ absent_mark → row ≡ row_held actions row
unfolding row_held
row_still actions row n e =
    ext_get_or 0 _ _ (n ∙ sym (length_tabulate (cell_held actions row) 0 most_actions))
    (λ x h.
    sym
    (get_d_tabulate (cell_held actions row) most_actions x 0 (rw n at h) ∙ still_cell actions row x e))

-- the row that the loop comes to is still the grid's own
pub row_next : (actions : ℕ) (g : List (List ℕ)) (q : ℕ) {m : List (List ℕ)} {r : List ℕ} → m ≡ filled (row_held_at actions g) q g → r ≡ get_or m q []
    → row_held actions r ≡ row_held_at actions g q
unfolding row_held_at
row_next actions g q e s =
    ap (row_held actions) (s ∙ ap (λ m. get_or m q []) e ∙ filled_rest (row_held_at actions g) g q q [] (omega arith))

pub grid_done : (actions : ℕ) (g : List (List ℕ)) (k : ℕ) → length g ≡ most_positions → k ≤ most_positions → most_positions ≤ k
    → filled (row_held_at actions g) k g ≡ grid_held actions g
unfolding grid_held
grid_done actions g k n h i = filled_done (row_held_at actions g) g k most_positions refl n h i

pub ruleset holding = (rules, filled_none, filled_more, row_next, grid_done)

-- what a completed grid says

module _ (actions : ℕ) (row : List ℕ) (x : ℕ) where
  cell_means : unmark (cell_held actions row x) ≡ or_else (unmark (get_or row x 0)) (cond (ltb x actions) (unmark (get_or row 0 0)) absent)
  unfolding cell_held
  cell_means =
      ⊎_elim
      (λ (e : get_or row x 0 ≡ absent_mark).
      rw (both_second _ (ltb x actions) (eq-eqb _ _ e))
      (missing e (ltb x actions) ∙ sym (or_else_second _ (unmark_absent e))))
      (λ (n : get_or row x 0 ≡ absent_mark → ⊥).
      rw (both_none _ (ltb x actions) (ne_eqb _ _ n)) (unmark_to n ∙ sym (or_else_first _ (unmark_to n))))
      (same? (get_or row x 0) absent_mark)
    where
      missing : get_or row x 0 ≡ absent_mark → (b : Bool)
          → unmark (cond b (get_or row 0 0) (get_or row x 0)) ≡ cond b (unmark (get_or row 0 0)) absent
      missing e true = refl
      missing e false = unmark_absent e

module _ (actions : ℕ) (few : actions ≤ most_actions) (g : List (List ℕ)) where
  held_row_at : (q : ℕ) → q < most_positions → get_or (grid_held actions g) q [] ≡ row_held actions (get_or g q [])
  unfolding grid_held row_held_at
  held_row_at q h = get_d_tabulate (row_held_at actions g) most_positions q [] h

  cell_at : (q x : ℕ) → q < most_positions → x < most_actions → get_or (get_or (grid_held actions g) q []) x 0 ≡ cell_held actions (get_or g q []) x
  unfolding row_held
  cell_at q x h k = rw (held_row_at q h) (get_d_tabulate (cell_held actions (get_or g q [])) most_actions x 0 k)

  absent_past : (f : List (List ℕ)) (q x : ℕ) → most_positions ≤ q → target_at f q x ≡ absent
  absent_past f q x h = sym (target_past f q x h) ∙ unmark_absent refl

  no_action : (f : List (List ℕ)) (q x : ℕ) → most_actions ≤ x → target_at f q x ≡ absent
  no_action f q x h = sym (target_no_action f q x h) ∙ unmark_absent refl

  inside : (q x : ℕ) → q < most_positions → x < most_actions → target_at (grid_held actions g) q x ≡ held true actions (target_at g) q x
  unfolding held
  inside q x h k =
      sym (target_in_lem (grid_held actions g) q x _ h k refl)
      ∙ ap unmark (cell_at q x h k)
      ∙ cell_means actions (get_or g q []) x
      ∙ rw (target_in_lem g q x _ h k refl, target_in_lem g q 0 _ h (omega arith) refl)

  outside : (q x : ℕ) → most_actions ≤ x → target_at (grid_held actions g) q x ≡ held true actions (target_at g) q x
  unfolding held
  outside q x k =
      no_action (grid_held actions g) q x k
      ∙ sym (or_else_second _ (no_action g q x k) ∙ rw (le-ltb x actions (omega arith)))

  past : (q x : ℕ) → most_positions ≤ q → target_at (grid_held actions g) q x ≡ held true actions (target_at g) q x
  unfolding held
  past q x h =
      absent_past (grid_held actions g) q x h
      ∙ sym (or_else_second _ (absent_past g q x h) ∙ nothing (ltb x actions))
    where
      nothing : (b : Bool) → cond b (target_at g q 0) absent ≡ absent
      nothing true = absent_past g q 0 h
      nothing false = refl

  grid_means : (q x : ℕ) → target_at (grid_held actions g) q x ≡ held true actions (target_at g) q x
  grid_means q x =
      ⊎_elim
      (λ (h : q < most_positions). ⊎_elim (inside q x h) (outside q x) (below? x most_actions))
      (past q x)
      (below? q most_positions)

-- the targets of the grid of a C body are held where gates hold, and else as they are
pub held_means : (holding : Bool) (actions : ℕ) (c : List ℕ) → actions ≤ most_actions → (q x : ℕ)
    → target_at (held_grid holding actions c) q x ≡ held holding actions (target_at (grid_of c)) q x
unfolding held_grid held
held_means true actions c few q x = grid_means actions few (grid_of c) q x
held_means false actions c few q x = refl
