-- The code of src/block.rt, over the arena of the arrays. Assumes nothing.
use Prim.Native.Nat.{ℕ, suc, ◌+◌, ◌*◌, ◌/◌, ◌%◌, ◌≤◌, ◌<◌}
use mathlib.Core.Path.{◌≡◌, refl, sym, ◌∙◌, ap}
use mathlib.Core.Bool.{Bool, true, false}
use mathlib.Core.List.{List, []}
use native.Mathlib.Omega.{arith}
use native.Mathlib.Nat.{mul_comm, mul_assoc, mul-le-mul_right, suc-mul}
use mir.Val.{Fits}
use mir.Syntax.{w64}
use lib.ListN.{length, get_or}
use borrow.Author.Rules.{rules}
use borrow.Author.Tests.{ltb-true, leb-true}
use Rattle.theory.specs.Fold.{any_of}
use Rattle.theory.specs.Game.{Game}
use Rattle.theory.specs.Rounds.{Arena, bad, spoilt_by}
use Rattle.theory.specs.Delay.{on_right, step}
use Rattle.theory.proofs.Fold.{not_both, same_test, both_left, both_right}
use Rattle.sheet.specs.Kinds.{controller_at, safe_at}
use Rattle.sheet.specs.code.Arrays.{view_of, target_at}
use Rattle.walk.specs.declared.level.Level.{Level}
use Rattle.walk.specs.code.Levels.{arena_of}
use Rattle.walk.specs.code.Nodes.{Sized}
use Rattle.walk.specs.code.Walks.{fallen_by, spoilt_answer}
use Rattle.walk.proofs.NodeLaws.{at_action}
use Rattle.sheet.specs.Limits.{most_nodes}
use Rattle.solver.specs.code.Work.{Work, spoil_row_to}
use Rattle.solver.specs.code.Sweep.{Fitted}
use Rattle.solver.specs.code.Block.{blocked_at, no_way, block_to}
use Rattle.theory.proofs.Rounds.{spoilt_more}
use Rattle.solver.proofs.BlockLaws.{row_position, row_step, even_outcomes, played_none}

-- nothing is fallen by round 0
none_fallen : (marks : List ℕ) (k : ℕ) → fallen_by 0 marks k ≡ true → false ≡ true
unfolding fallen_by
none_fallen marks k e =
    let a = ltb-true 0 (get_or marks k 0) (both_left _ _ e) in
    let b = leb-true (get_or marks k 0) 0 (both_right _ _ e) in
    absurd (omega arith)

spoilt_none : (E : Arena) (marks : List ℕ) (k c : ℕ) → spoilt_by E (fallen_by 0 marks) k c ≡ spoilt_by E (λ j. false) k c
spoilt_none E marks k c =
    same_test _ _ (spoilt_more E (fallen_by 0 marks) (λ j. false) k c (none_fallen marks))
    (spoilt_more E (λ j. false) (fallen_by 0 marks) k c (λ j e. absurd (not_both e refl)))

module _ (p : List ℕ) (g : List (List ℕ)) (u f : List ℕ) (l : Level) (younger b : ℕ) (sized : Sized (length p) l) (fits : Fitted l younger)
    (below : b < length p * l.actions) where
  abbrev G : Game
  G = view_of p g u f l.start l.actions

  whole : l.words ≡ younger * l.actions
  whole = fits.whole

  place : (b * younger) / l.words ≡ b / l.actions
  unfolding view_of
  place =
      ap (λ (x : ℕ). x / l.words) (let z : b * younger ≡ b * younger + 0 = omega arith in z)
      ∙ row_position G l.odd l.words younger fits.some_action fits.some_younger whole b 0 fits.some_younger

  row_end : b * younger + younger ≤ l.nodes
  row_end =
      let q : length p * l.words ≡ length p * l.actions * younger =
      ap (λ (x : ℕ). length p * x) (whole ∙ mul_comm younger l.actions) ∙ sym (mul_assoc (length p) l.actions younger) in
      let r : suc b * younger ≤ length p * l.actions * younger = mul-le-mul_right younger below in
      let s = suc-mul b younger in
      let n = sized.all_nodes in
      omega arith

  pub row_inside : b * younger < l.nodes
  row_inside = omega (arith, row_end, fits.some_younger)

  pub row_whole : b * younger + younger ≤ most_nodes
  row_whole = omega (arith, row_end, sized.few_nodes)

  pub row_fits : Fits w64 (b * younger)
  row_fits = let h = row_whole in record { fits = omega arith }

  -- the tests

  pub right_is : (arena_of p g u f l).right (b * younger) ≡ on_right l.odd (controller_at p) (b / l.actions)
  unfolding arena_of view_of
  right_is = ap (on_right l.odd (controller_at p)) place

  pub safe_is : (arena_of p g u f l).safe (b * younger) ≡ safe_at p (b / l.actions)
  unfolding arena_of view_of
  safe_is = ap (safe_at p) place

  pub fails_odd : {t : Bool} → t ≡ spoilt_answer p g u f l [] 0 (b * younger) 0
      → t ≡ spoilt_by (arena_of p g u f l) (λ j. false) (b * younger) 0
  fails_odd e =
      at_action (length p) l (b * younger) 0 sized row_inside fits.some_action e ∙ spoilt_none (arena_of p g u f l) [] (b * younger) 0

  pub fails_even : l.odd ≡ false → {t : Bool} → t ≡ no_way (safe_at p) (target_at g (b / l.actions) (b % l.actions))
      → t ≡ spoilt_by (arena_of p g u f l) (λ j. false) (b * younger) 0
  unfolding arena_of view_of spoilt_by
  fails_even o e =
      e
      ∙ sym
      (rw o
      (ap (λ x. any_of (bad (λ j. false)) (step false G l.words x 0)) (let z : b * younger ≡ b * younger + 0 = omega arith in z)
      ∙ ap (any_of (bad (λ j. false)))
      (row_step G false l.words younger fits.some_action fits.some_younger whole b 0 fits.some_younger 0
      ∙ even_outcomes G false l.words younger fits.some_action fits.some_younger whole (b / l.actions) (b % l.actions))
      ∙ played_none G l.words (0 * l.actions + 0) (target_at g (b / l.actions) (b % l.actions))))

pub ruleset blocking = (rules, row_fits, right_is, safe_is, fails_odd, fails_even)

-- a row
module _ (E : Arena) (younger : ℕ) where
  pub block_passed : (w : Work) (b : ℕ) {t : Bool} → t ≡ blocked_at E (b * younger) → t ≡ false → w ≡ block_to E younger w b
  unfolding block_to
  block_passed w b e n = rw (sym e ∙ n)

  pub block_fallen : (w : Work) (b : ℕ) {v : Work} {t : Bool} → t ≡ blocked_at E (b * younger) → t ≡ true → v ≡ spoil_row_to 1 w (b * younger) younger
      → v ≡ block_to E younger w b
  unfolding block_to
  block_fallen w b e n r = r ∙ rw (sym e ∙ n)

pub ruleset blocks = (rules, row_fits, row_whole, block_fallen, block_passed)
