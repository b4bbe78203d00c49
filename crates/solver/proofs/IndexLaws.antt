-- The chains of the arrays' lines and cells are those of the game that the arrays hold. Assumes nothing.
use Prim.Native.Nat.{ℕ, ◌+◌, ◌*◌, ◌/◌, ◌%◌, ◌≤◌, ◌<◌}
use mathlib.Core.Path.{◌≡◌, refl, sym, ◌∙◌, ap}
use mathlib.Core.Bool.{true, false}
use mathlib.Core.Logic.{⊎_elim}
use mathlib.Core.List.{List}
use native.Mathlib.Omega.{arith}
use lib.Dec.{ltb}
use lib.ListN.{length, get_or}
use borrow.Author.Tests.{ltb-true}
use Rattle.theory.specs.Fold.{both}
use Rattle.theory.specs.Game.{Target, absent, to, Game, Legal}
use Rattle.theory.proofs.Fold.{bool, both_left, both_right}
use Rattle.theory.proofs.Turns.{absent_not_to}
use Rattle.sheet.specs.Limits.{most_positions, most_actions}
use Rattle.sheet.specs.code.Arrays.{view_of, target_at, mark_of, absent_mark, to_at, line_count}
use Rattle.solver.specs.code.Sizes.{most_cells}
use Rattle.solver.specs.code.Chains.{Linked, cell_key}
use Rattle.solver.specs.code.Sweep.{Index, Reverses}
use Rattle.solver.specs.code.Working.{Lines}
use Rattle.solver.proofs.ChainLaws.{chain_places, chain_visits, marked_absent, marked_to}

-- a target's mark below the absent one
mark_target : (o : Target) (t : ℕ) → mark_of o ≡ t → t < absent_mark → o ≡ to t
mark_target absent t e h = let z = marked_absent in absurd (omega arith)
mark_target (to q) t e h = ap to (sym (marked_to q) ∙ e)

-- a target that is there is in the grid
target_inside : (g : List (List ℕ)) (q h t : ℕ) → target_at g q h ≡ to t → (q < most_positions) × (h < most_actions)
unfolding target_at
target_inside g q h t e =
    ⊎_elim
    (λ (b : both (ltb q most_positions) (ltb h most_actions) ≡ true).
    (ltb-true q most_positions (both_left _ _ b), ltb-true h most_actions (both_right _ _ b)))
    (λ (b : both (ltb q most_positions) (ltb h most_actions) ≡ false). absurd (absent_not_to (rw b at e)))
    (bool (both (ltb q most_positions) (ltb h most_actions)))

module _ (p : List ℕ) (g : List (List ℕ)) (u f : List ℕ) (start actions : ℕ) (x : Index) (body : x.moves ≡ u)
    (few : length p ≤ most_positions) (legal : Legal (view_of p g u f start actions)) (all : Lines (view_of p g u f start actions) u)
    (rows : Linked (to_at u) (line_count u) x.reaching x.lines) (columns : Linked (cell_key g) most_cells x.leading x.cells) where
  abbrev G : Game
  G = view_of p g u f start actions

  positions_is : G.positions ≡ length p
  unfolding view_of
  positions_is = refl

  target_is : (q h : ℕ) → G.target q h ≡ target_at g q h
  unfolding view_of
  target_is q h = refl

  cell_of : (q h t : ℕ) → G.target q h ≡ to t → cell_key g (q * 8 + h) ≡ t
  unfolding cell_key
  cell_of q h t e =
      let i = target_inside g q h t (sym (target_is q h) ∙ e) in
      let a = i.1 in
      let d : (q * 8 + h) / 8 ≡ q = omega arith in
      let m : (q * 8 + h) % 8 ≡ h = omega arith in
      rw (d, m, sym (target_is q h) ∙ e) (marked_to t)

  line_from : (i : ℕ) → get_or x.moves (2 * i) 0 ≡ get_or u (2 * i) 0
  line_from i = ap (λ (m : List ℕ). get_or m (2 * i) 0) body

  pub index_reverses : Reverses G x
  unfolding cell_key
  index_reverses =
      record {
        move = λ q r i m e h.
            let s = positions_is in
            let z = chain_places (to_at u) (line_count u) x.reaching x.lines rows r i (omega arith) m in
            let o = all.move i z.0 in
            rw (z.1, sym (line_from i) ∙ e) at o;
        line = λ q r m.
            let s = positions_is in
            let h = (legal.moves q r m).position in
            let z = all.line q r m in
            (z.0, chain_visits (to_at u) (line_count u) x.reaching x.lines rows r z.0 (omega arith) z.1 z.3, line_from z.0 ∙ z.2);
        target = λ t c m h.
            let s = positions_is in
            let z = chain_places (cell_key g) most_cells x.leading x.cells columns t c (omega arith) m in
            target_is (c / 8) (c % 8) ∙ mark_target _ t z.1 (omega arith);
        cell = λ q h t e.
            let s = positions_is in
            let i = target_inside g q h t (sym (target_is q h) ∙ e) in
            let a = i.0 in
            let b = i.1 in
            let l = (legal.targets q h t e).position in (
              q * 8 + h,
              chain_visits (cell_key g) most_cells x.leading x.cells columns t (q * 8 + h) (omega arith) (omega arith) (cell_of q h t e),
              (let d : (q * 8 + h) / 8 ≡ q = omega arith in d),
              (let d : (q * 8 + h) % 8 ≡ h = omega arith in d),
            );
      }
