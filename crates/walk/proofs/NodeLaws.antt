-- The tests that a level is small, that a buffer fits it and that a node exists (specs/code/Nodes.antt). Assumes nothing.
use Prim.Native.Nat.{ℕ, ◌≤◌, ◌<◌}
use mathlib.Core.Path.{◌≡◌, refl, sym, ◌∙◌}
use mathlib.Core.Bool.{Bool, true}
use mathlib.Core.List.{List}
use lib.Dec.{ltb}
use lib.ListN.{length}
use borrow.Author.Rules.{rules}
use borrow.Author.Tests.{eqb-true, leb-true, ltb-true, eq-eqb, le-leb, lt-ltb}
use Rattle.theory.specs.Fold.{both, tabulate}
use Rattle.theory.proofs.Fold.{both_true, both_left, both_right, both_second}
use Rattle.theory.proofs.Filling.{filled, filled_done}
use Rattle.walk.specs.declared.level.Level.{Level}
use Rattle.walk.specs.code.Nodes.{Sized, is_sized, is_fitted, is_node}

module _ (positions : ℕ) (l : Level) where
  pub sized_tested : Sized positions l → is_sized positions l ≡ true
  unfolding is_sized
  sized_tested s =
      both_true _ _ (le-leb _ _ s.few_positions)
      (both_true _ _ (le-leb _ _ s.few_actions)
      (both_true _ _ (le-leb 1 l.words s.some_word)
      (both_true _ _ (le-leb _ _ s.few_words)
      (both_true _ _ (le-leb _ _ s.few_nodes) (eq-eqb _ _ s.all_nodes)))))

  pub tested_sized : is_sized positions l ≡ true → Sized positions l
  unfolding is_sized
  tested_sized e =
      let a = both_right _ _ e in
      let b = both_right _ _ a in
      let c = both_right _ _ b in
      let d = both_right _ _ c in
      record {
        few_positions = leb-true _ _ (both_left _ _ e);
        few_actions = leb-true _ _ (both_left _ _ a);
        some_word = leb-true 1 l.words (both_left _ _ b);
        few_words = leb-true _ _ (both_left _ _ c);
        all_nodes = eqb-true _ _ (both_right _ _ d);
        few_nodes = leb-true _ _ (both_left _ _ d);
      }

  pub fitted : (entries : ℕ) → Sized positions l → entries ≡ l.nodes → is_fitted positions l entries ≡ true
  unfolding is_fitted
  fitted entries s e = both_true _ _ (sized_tested s) (eq-eqb _ _ e)

  -- and conversely, by the answer of Arena::is_fitted

  pub fitted_level : (entries : ℕ) {r : Bool} → r ≡ is_fitted positions l entries → r ≡ true → Sized positions l
  unfolding is_fitted
  fitted_level entries e t = tested_sized (both_left _ _ (sym e ∙ t))

  pub fitted_entries : {entries : ℕ} {r : Bool} → r ≡ is_fitted positions l entries → r ≡ true → entries ≡ l.nodes
  unfolding is_fitted
  fitted_entries e t = eqb-true _ _ (both_right _ _ (sym e ∙ t))

  module _ (k : ℕ) where
    -- what the walk of a node that exists may take for granted

    pub node_level : {r : Bool} → r ≡ is_node positions l k → r ≡ true → Sized positions l
    unfolding is_node
    node_level e t = tested_sized (both_left _ _ (sym e ∙ t))

    pub node_lt : {r : Bool} → r ≡ is_node positions l k → r ≡ true → k < l.nodes
    unfolding is_node
    node_lt e t = ltb-true _ _ (both_right _ _ (sym e ∙ t))

    -- and conversely: at a node that exists, an answer is the walk's

    pub node_tested : Sized positions l → k < l.nodes → is_node positions l k ≡ true
    unfolding is_node
    node_tested s h = both_true _ _ (sized_tested s) (lt-ltb _ _ h)

    pub at_node : {r b : Bool} → Sized positions l → k < l.nodes → r ≡ both (is_node positions l k) b → r ≡ b
    at_node s h e = e ∙ both_second _ _ (node_tested s h)

    pub of_node : {r b : Bool} → Sized positions l → k < l.nodes → r ≡ b → r ≡ both (is_node positions l k) b
    of_node s h e = e ∙ sym (both_second _ _ (node_tested s h))

    pub at_action : (c : ℕ) {r b : Bool} → Sized positions l → k < l.nodes → c < l.actions
        → r ≡ both (is_node positions l k) (both (ltb c l.actions) b) → r ≡ b
    at_action c s h a e = at_node s h e ∙ both_second _ _ (lt-ltb _ _ a)

-- a buffer that is filled to its end
pub filled_all : (f : ℕ → ℕ) (l : List ℕ) (k : ℕ) → k ≤ length l → length l ≤ k → filled f k l ≡ tabulate f 0 (length l)
filled_all f l k h g = filled_done f l k (length l) refl refl h g

pub ruleset guarding = (rules, node_level, node_lt)

pub ruleset guarded = (rules, of_node)
