-- Judging (specs/Judging.antt): a table is sound exactly if it is judged, and a no names the first word or node that offends. Assumes
-- nothing.
use Prim.Native.Nat.{ℕ, ◌<◌}
use mathlib.Core.Path.{◌≡◌, refl, ap}
use mathlib.Core.Bool.{Bool, true, false, not, cond}
use mathlib.Core.Logic.{◌⊎◌, inl, inr, ⊎_elim}
use native.Mathlib.Omega.{arith}
use borrow.Author.Tests.{not-true, not-false}
use Rattle.theory.specs.Fold.{all_below, first_not}
use Rattle.theory.specs.Game.{Game}
use Rattle.theory.specs.Rounds.{Arena, spoilt_by}
use Rattle.theory.specs.Delay.{initial_words, arena, good_from}
use Rattle.theory.specs.Table.{Table, flagged, lacks, has, allows, Judged}
use Rattle.theory.specs.Judging.{word_ok, action_ok, node_ok, sound, bad_word, bad_node, ruling}
use Rattle.theory.proofs.Fold.{bool, not_both, both_true, both_left, both_right, either_left, either_right, either_cases, implied, implies, implies_not, all_at, all_below_lem, First, first}
use Rattle.theory.proofs.Tables.{has_lacks, lacks_has, allows_has}

-- what passes, and what does not

module _ (G : Game) (d : ℕ) (T : Table) (v : ℕ) where
  pub word_good : word_ok G d T v ≡ true → flagged T v ≡ true → good_from G d (has T) v ≡ true
  unfolding word_ok
  word_good e f = implies _ _ e f

  good_word_lem : (flagged T v ≡ true → good_from G d (has T) v ≡ true) → word_ok G d T v ≡ true
  unfolding word_ok
  good_word_lem g = implied _ _ g

  pub word_offending : word_ok G d T v ≡ false → (flagged T v ≡ true) × (good_from G d (has T) v ≡ false)
  unfolding word_ok
  word_offending e = implies_not _ _ e

-- a node with a mask that passes
pub record Stands (E : Arena) (T : Table) (k : ℕ) : Type 0 where
  pub right : E.right k ≡ true
  pub safe : E.safe k ≡ true
  pub unspoilt : (c : ℕ) → c < E.actions → allows T k c ≡ true → spoilt_by E (lacks T) k c ≡ false

module _ (E : Arena) (T : Table) (k : ℕ) where
  action_unspoilt : (c : ℕ) → action_ok E T k c ≡ true → allows T k c ≡ true → spoilt_by E (lacks T) k c ≡ false
  unfolding action_ok
  action_unspoilt c e a = not-true _ (implies _ _ e a)

  unspoilt_action : (c : ℕ) → (allows T k c ≡ true → spoilt_by E (lacks T) k c ≡ false) → action_ok E T k c ≡ true
  unfolding action_ok
  unspoilt_action c u = implied _ _ (λ a. ap not (u a))

  action_offending : (c : ℕ) → action_ok E T k c ≡ false → (allows T k c ≡ true) × (spoilt_by E (lacks T) k c ≡ true)
  unfolding action_ok
  action_offending c e = let o = implies_not _ _ e in (o.0, not-false _ o.1)

  pub node_stands : node_ok E T k ≡ true → has T k ≡ true → Stands E T k
  unfolding node_ok
  node_stands e h =
      ⊎_elim
      (λ (l : lacks T k ≡ true). absurd (not_both l (has_lacks T k h)))
      (λ e.
      let r = both_right _ _ e in
      record {
        right = both_left _ _ e;
        safe = both_left _ _ r;
        unspoilt = λ c l. action_unspoilt c (all_at (action_ok E T k) E.actions (both_right _ _ r) c l);
      })
      (either_cases _ _ e)

  pub stands_node : (has T k ≡ true → Stands E T k) → node_ok E T k ≡ true
  unfolding node_ok
  stands_node f =
      ⊎_elim
      (λ (l : lacks T k ≡ true). either_left _ _ l)
      (λ (l : lacks T k ≡ false).
      let s = f (lacks_has T k l) in
      either_right _ _
      (both_true _ _ s.right
      (both_true _ _ s.safe
      (all_below_lem (action_ok E T k) E.actions (λ c l. unspoilt_action c (s.unspoilt c l))))))
      (bool (lacks T k))

  -- and one that does not
  pub node_offending : node_ok E T k ≡ false → (has T k ≡ true)
      × ((E.right k ≡ false) ⊎ ((E.safe k ≡ false) ⊎ ((c : ℕ) × (allows T k c ≡ true) × (spoilt_by E (lacks T) k c ≡ true))))
  unfolding node_ok
  node_offending e =
      ⊎_elim
      (λ (l : lacks T k ≡ true). absurd (not_both (either_left _ _ l) e))
      (λ (l : lacks T k ≡ false). (lacks_has T k l, by l))
      (bool (lacks T k))
    where
      spoilt : all_below (action_ok E T k) E.actions ≡ false → (c : ℕ) × (allows T k c ≡ true) × (spoilt_by E (lacks T) k c ≡ true)
      spoilt f =
          let i = first (action_ok E T k) E.actions f in
          let o = action_offending _ i.fails in
          (first_not (action_ok E T k) E.actions, o.0, o.1)

      by : lacks T k ≡ false
          → (E.right k ≡ false) ⊎ ((E.safe k ≡ false) ⊎ ((c : ℕ) × (allows T k c ≡ true) × (spoilt_by E (lacks T) k c ≡ true)))
      by l =
          ⊎_elim
          (λ (r : E.right k ≡ true).
          inr
          (⊎_elim
          (λ (s : E.safe k ≡ true).
          inr
          (⊎_elim
          (λ a. absurd (not_both (either_right _ _ (both_true _ _ r (both_true _ _ s a))) e))
          (λ a. spoilt a)
          (bool (all_below (action_ok E T k) E.actions))))
          (λ (s : E.safe k ≡ false). inl s)
          (bool (E.safe k))))
          (λ (r : E.right k ≡ false). inl r)
          (bool (E.right k))

-- the three rulings

sound_both : (a b : Bool) (k v : ℕ) → cond a (cond b sound (bad_node k)) (bad_word v) ≡ sound → (a ≡ true) × (b ≡ true)
sound_both true true k v e = (refl, refl)
sound_both true false k v e = let z : ◌≡◌ {A = ℕ} 0 1 = cc in absurd (omega arith)
sound_both false b k v e = let z : ◌≡◌ {A = ℕ} 0 1 = cc in absurd (omega arith)

bad_word_lem : (a b : Bool) (k v w : ℕ) → cond a (cond b sound (bad_node k)) (bad_word v) ≡ bad_word w → (a ≡ false) × (v ≡ w)
bad_word_lem true true k v w e = let z : ◌≡◌ {A = ℕ} 0 1 = cc in absurd (omega arith)
bad_word_lem true false k v w e = let z : ◌≡◌ {A = ℕ} 0 1 = cc in absurd (omega arith)
bad_word_lem false b k v w e = (refl, cc)

bad_node_lem : (a b : Bool) (k v n : ℕ) → cond a (cond b sound (bad_node k)) (bad_word v) ≡ bad_node n → (a ≡ true) × (b ≡ false) × (k ≡ n)
bad_node_lem true true k v n e = let z : ◌≡◌ {A = ℕ} 0 1 = cc in absurd (omega arith)
bad_node_lem true false k v n e = (refl, refl, cc)
bad_node_lem false b k v n e = let z : ◌≡◌ {A = ℕ} 0 1 = cc in absurd (omega arith)

module _ (G : Game) (d : ℕ) (T : Table) where
  abbrev words_ok : Bool
  words_ok = all_below (word_ok G d T) (initial_words G d)

  abbrev nodes_ok : Bool
  nodes_ok = all_below (node_ok (arena G d) T) (arena G d).nodes

  pub sound_judged : ruling G d T ≡ sound → Judged G d T
  unfolding ruling arena
  sound_judged e =
      let s = sound_both words_ok nodes_ok _ _ e in
      let at : (k : ℕ) → k < (arena G d).nodes → has T k ≡ true → Stands (arena G d) T k =
      λ k h. node_stands (arena G d) T k (all_at (node_ok (arena G d) T) (arena G d).nodes s.1 k h) in
      record {
        words = λ v h. word_good G d T v (all_at (word_ok G d T) (initial_words G d) s.0 v h);
        right = λ k h m. (at k h m).right;
        safe = λ k h m. (at k h m).safe;
        unspoilt = λ k c h l a. (at k h (allows_has T k c a)).unspoilt c l a;
      }

  pub judged_sound : Judged G d T → ruling G d T ≡ sound
  unfolding ruling arena
  judged_sound j =
      let words : words_ok ≡ true = all_below_lem (word_ok G d T) (initial_words G d) (λ v h. good_word_lem G d T v (j.words v h)) in
      let nodes : nodes_ok ≡ true =
      all_below_lem (node_ok (arena G d) T) (arena G d).nodes
      (λ k h.
      stands_node (arena G d) T k
      (λ m. record { right = j.right k h m; safe = j.safe k h m; unspoilt = λ c l a. j.unspoilt k c h l a })) in
      rw (words, nodes)

  -- a no names the first word that offends, or the first node where no word does

  pub word_offends : (v : ℕ) → ruling G d T ≡ bad_word v → First (word_ok G d T) (initial_words G d) v
  unfolding ruling
  word_offends v e =
      let b = bad_word_lem words_ok nodes_ok _ _ v e in rw (← b.1) (first (word_ok G d T) (initial_words G d) b.0)

  pub node_offends : (k : ℕ) → ruling G d T ≡ bad_node k
      → ((v : ℕ) → v < initial_words G d → word_ok G d T v ≡ true) × First (node_ok (arena G d) T) (arena G d).nodes k
  unfolding ruling
  node_offends k e =
      let b = bad_node_lem words_ok nodes_ok _ _ k e in (
        all_at (word_ok G d T) (initial_words G d) b.0,
        rw (← b.2) (first (node_ok (arena G d) T) (arena G d).nodes b.1),
      )
