-- The grid of targets: filling it line by line, as the code of src/grid.rt does. Assumes nothing.
use Prim.Native.Nat.{ℕ, suc, ◌+◌, ◌*◌, ◌/◌, ◌≤◌, ◌<◌}
use mathlib.Core.Path.{◌≡◌, refl, sym, ◌∙◌, ap}
use mathlib.Core.Bool.{true, false, cond}
use mathlib.Core.Logic.{⊎_elim}
use mathlib.Core.List.{List, []}
use native.Mathlib.Omega.{arith}
use native.Mathlib.Numerals.{add-one}
use lib.ListN.{length, get_or, set, replicate, length-set, length-replicate, get_or-replicate}
use lib.Seq.{get_or-set_same, get_or-set_other, ext_get_or}
use borrow.Author.Tests.{eq-eqb, ne_eqb, lt-ltb, le-ltb}
use Rattle.std.specs.Simd.{first_chunks}
use Rattle.theory.specs.Fold.{tabulate, both}
use Rattle.theory.specs.Game.{to, absent}
use Rattle.theory.proofs.Fold.{same?, both_true, both_false, length_tabulate, get_d_tabulate, tabulate_same, both_none}
use Rattle.sheet.proofs.ChunkLaws.{chunk_entry}
use Rattle.sheet.specs.SheetGame.{is_line, target_in}
use Rattle.sheet.specs.code.Arrays.{mark_of, row_of, grid_after, grid_of, absent_mark, unmark, target_at}
use Rattle.sheet.specs.Limits.{most_positions, most_actions}
use lib.Dec.{ltb}

module _ (c : List ℕ) (n : ℕ) where
  pub length_row : (q : ℕ) → length (row_of c n q) ≡ most_actions
  unfolding row_of
  length_row q = length_tabulate _ 0 most_actions

  pub cell_at : (q x : ℕ) → x < most_actions → get_or (row_of c n q) x 0 ≡ mark_of (target_in c q x n)
  unfolding row_of
  cell_at q x h = get_d_tabulate (λ x. mark_of (target_in c q x n)) most_actions x 0 h

  pub length_grid : length (grid_after c n) ≡ most_positions
  unfolding grid_after
  length_grid = length_tabulate _ 0 most_positions

  pub row_at : (q : ℕ) → q < most_positions → get_or (grid_after c n) q [] ≡ row_of c n q
  unfolding grid_after
  row_at q h = get_d_tabulate (row_of c n) most_positions q [] h

module _ (c : List ℕ) (k : ℕ) where
  pub target_next : (q x : ℕ) → target_in c q x (suc k) ≡ cond (is_line c q x k) (to (get_or c (3 * k + 2) 0)) (target_in c q x k)
  unfolding target_in
  target_next q x = refl

  -- f, a and t are line k: "from, command, to"
  module _ (f a t : ℕ) (from : f ≡ get_or c (3 * k) 0) (action : a ≡ get_or c (3 * k + 1) 0) where
    here : is_line c f a k ≡ true
    unfolding is_line
    here = both_true _ _ (eq-eqb _ _ (sym from)) (eq-eqb _ _ (sym action))

    not_from : (q x : ℕ) → (q ≡ f → ⊥) → is_line c q x k ≡ false
    unfolding is_line
    not_from q x n = both_none _ _ (ne_eqb _ _ (λ e. n (sym e ∙ sym from)))

    not_action : (q x : ℕ) → (x ≡ a → ⊥) → is_line c q x k ≡ false
    unfolding is_line
    not_action q x n = both_false _ _ (ne_eqb _ _ (λ e. n (sym e ∙ sym action)))

    unchanged : (q x : ℕ) → is_line c q x k ≡ false → target_in c q x (suc k) ≡ target_in c q x k
    unchanged q x e = rw (target_next q x, e)

    row_other : (q : ℕ) → (q ≡ f → ⊥) → row_of c (suc k) q ≡ row_of c k q
    unfolding row_of
    row_other q n =
        tabulate_same (λ x. mark_of (target_in c q x (suc k))) (λ x. mark_of (target_in c q x k)) 0 most_actions
        (λ x h. ap mark_of (unchanged q x (not_from q x n)))

    row_kept : (q : ℕ) → most_actions ≤ a → row_of c (suc k) q ≡ row_of c k q
    unfolding row_of
    row_kept q m =
        tabulate_same (λ x. mark_of (target_in c q x (suc k))) (λ x. mark_of (target_in c q x k)) 0 most_actions
        (λ x h. ap mark_of (unchanged q x (not_action q x (λ e. omega arith))))

    -- a line whose action no row has changes nothing
    pub grid_kept : most_actions ≤ a → grid_after c k ≡ grid_after c (k + 1)
    unfolding grid_after
    grid_kept m = rw (add-one k) (tabulate_same (row_of c k) (row_of c (suc k)) [] most_positions (λ q h. sym (row_kept q m)))

    module _ (target : t ≡ get_or c (3 * k + 2) 0) (within : f < most_positions) (small : a < most_actions) where
      cell_here : (x : ℕ) → x < most_actions → get_or (set (row_of c k f) a t) x 0 ≡ mark_of (target_in c f x (suc k))
      unfolding mark_of
      cell_here x h =
          ⊎_elim
          (λ (e : x ≡ a).
          rw (e, target_next f a, here)
          (get_or-set_same (row_of c k f) a t 0 (rw (length_row c k f) small) ∙ target))
          (λ (n : x ≡ a → ⊥).
          rw (unchanged f x (not_action f x n)) (get_or-set_other (row_of c k f) a x t 0 n ∙ cell_at c k f x h))
          (same? x a)

      row_here : set (row_of c k f) a t ≡ row_of c (suc k) f
      row_here =
          ext_get_or 0 _ _ (length-set (row_of c k f) a t ∙ length_row c k f ∙ sym (length_row c (suc k) f))
          (λ x h.
          let m : x < most_actions = rw (length-set (row_of c k f) a t, length_row c k f) at h in
          cell_here x m ∙ sym (cell_at c (suc k) f x m))

      row_filled : (q : ℕ) → q < most_positions → get_or (set (grid_after c k) f (set (row_of c k f) a t)) q [] ≡ row_of c (suc k) q
      row_filled q h =
          ⊎_elim
          (λ (e : q ≡ f).
          rw e (get_or-set_same (grid_after c k) f (set (row_of c k f) a t) [] (rw (length_grid c k) within) ∙ row_here))
          (λ (n : q ≡ f → ⊥).
          get_or-set_other (grid_after c k) f q (set (row_of c k f) a t) [] n ∙ row_at c k q h ∙ sym (row_other q n))
          (same? q f)

      pub grid_filled : set (grid_after c k) f (set (get_or (grid_after c k) f []) a t) ≡ grid_after c (k + 1)
      grid_filled =
          rw (add-one k, row_at c k f within)
          (ext_get_or [] _ _ (length-set (grid_after c k) f _ ∙ length_grid c k ∙ sym (length_grid c (suc k)))
          (λ q h.
          let m : q < most_positions = rw (length-set (grid_after c k) f (set (row_of c k f) a t), length_grid c k) at h in
          row_filled q m ∙ sym (row_at c (suc k) q m)))

-- as the loop over the lines finds it: f, a and t are those of line k

module _ (c : List ℕ) (l : List (List ℕ)) (whole : l ≡ first_chunks 3 (length c / 3) c) (size : length l ≡ length c / 3) (k f a t : ℕ)
    (g : List (List ℕ)) (so_far : g ≡ grid_after c k) where
  entry : (j p : ℕ) → k < length l → j < 3 → p ≡ 3 * k + j → get_or (get_or l k []) j 0 ≡ get_or c p 0
  entry j p h i e = rw whole (chunk_entry 3 (length c / 3) c k j p (omega arith) i e)

  pub grid_line : k < length l → a ≡ get_or (get_or l k []) 1 0 → a < most_actions → f ≡ get_or (get_or l k []) 0 0
      → get_or (get_or l k []) 0 0 < most_positions → t ≡ get_or (get_or l k []) 2 0
      → set g f (set (get_or g f []) a t) ≡ grid_after c (k + 1)
  grid_line h action small from byte target =
      rw so_far
      (grid_filled c k f a t (from ∙ entry 0 (3 * k) h (omega arith) (omega arith)) (action ∙ entry 1 (3 * k + 1) h (omega arith) refl)
      (target ∙ entry 2 (3 * k + 2) h (omega arith) refl) (omega arith) small)

  pub grid_skip : k < length l → a ≡ get_or (get_or l k []) 1 0 → most_actions ≤ a → g ≡ grid_after c (k + 1)
  grid_skip h action large =
      so_far ∙ grid_kept c k (get_or c (3 * k) 0) a 0 refl (action ∙ entry 1 (3 * k + 1) h (omega arith) refl) large

pub grid_done : (c : List ℕ) (k n : ℕ) → n ≡ length c / 3 → k ≤ n → n ≤ k → grid_after c k ≡ grid_of c
unfolding grid_of
grid_done c k n s l h = ap (grid_after c) (omega arith)

abbrev empty_row : List ℕ
empty_row = replicate most_actions absent_mark

row_empty : (c : List ℕ) (q : ℕ) → empty_row ≡ row_of c 0 q
unfolding row_of target_in mark_of tabulate
row_empty c q = refl

pub grid_start : (c : List ℕ) → replicate most_positions empty_row ≡ grid_after c 0
grid_start c =
    ext_get_or [] _ _ (length-replicate most_positions empty_row ∙ sym (length_grid c 0))
    (λ q h.
    let m : q < most_positions = rw (length-replicate most_positions empty_row) at h in
    get_or-replicate most_positions q empty_row [] m ∙ row_empty c q ∙ sym (row_at c 0 q m))

pub ruleset line_by_line = (grid_start, grid_line, grid_skip, grid_done)

-- looking a target up

pub unmark_absent : {t : ℕ} → t ≡ absent_mark → unmark t ≡ absent
unfolding unmark
unmark_absent {t} e = rw (eq-eqb t absent_mark e)

pub unmark_to : {t : ℕ} → (t ≡ absent_mark → ⊥) → unmark t ≡ to t
unfolding unmark
unmark_to {t} n = rw (ne_eqb t absent_mark n)

pub target_past : (g : List (List ℕ)) (q x : ℕ) → most_positions ≤ q → unmark absent_mark ≡ target_at g q x
unfolding target_at unmark both
target_past g q x h = rw (le-ltb q most_positions h)

pub target_no_action : (g : List (List ℕ)) (q x : ℕ) → most_actions ≤ x → unmark absent_mark ≡ target_at g q x
unfolding target_at unmark
target_no_action g q x h = rw (both_false (ltb q most_positions) _ (le-ltb x most_actions h))

pub target_in_lem : (g : List (List ℕ)) (q x r : ℕ) → q < most_positions → x < most_actions → r ≡ get_or (get_or g q []) x 0
    → unmark r ≡ target_at g q x
unfolding target_at
target_in_lem g q x r h k e = rw (both_true _ _ (lt-ltb q most_positions h) (lt-ltb x most_actions k), e)
