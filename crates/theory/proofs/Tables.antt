-- Tables (specs/Table.antt), whoever made them: any choice out of a judged table wins, and every step of a legal game stays among its
-- nodes. Assumes nothing.
use Prim.Native.Nat.{ℕ, ◌+◌, ◌*◌, ◌/◌, ◌%◌, ◌<◌}
use mathlib.Core.Path.{◌≡◌, refl, sym, ◌∙◌, ap}
use mathlib.Core.Bool.{Bool, true, false, not}
use mathlib.Core.Logic.{⊎_elim}
use mathlib.Core.List.Memᴰ
use mathlib.Core.List.{Memᴰ}
use native.Mathlib.Omega.{arith}
use lib.Arith.{digits_lt, digits_div}
use lib.ListN.{get_or}
use native.Mathlib.Nat.{le_refl, mod-lt, one-le-pow}
use borrow.Author.Tests.{eqb-false, ne_eqb, not-true}
use Rattle.theory.specs.Game.{Game, Target, absent, to, Legal}
use Rattle.theory.specs.Play.{Play}
use Rattle.theory.specs.Strategy.{initial_length, Strategy, Wins}
use Rattle.theory.specs.Rounds.{spoilt_by}
use Rattle.theory.specs.Delay.{odd, words, initial_words, on_right, moved_to, played_to, outcomes, step, arena, good_from}
use Rattle.theory.specs.Table.{Table, flagged, lacks, has, allows, Judged, Inside, node, Obeys}
use Rattle.theory.proofs.Fold.{bool, not_both}
use Rattle.theory.proofs.Masks.{bit_some, bits_le}
use Rattle.theory.proofs.Rounds.{unspoilt, unspoilt_outcome}
use Rattle.theory.proofs.Turns.{right_even, right_odd, to_injective, played_node, played_forbidden, played_passed, moved_passed}
use Rattle.theory.proofs.Pending.{even_delay}
use Rattle.theory.proofs.Correctness.{Starts, good_starts, starts_good, Seen, KeepsInside, seen_node, keeping_wins, keeping_node}

-- a table's tests

module _ (T : Table) where
  pub has_mask : (k : ℕ) → has T k ≡ true → get_or T.masks k 0 ≡ 0 → ⊥
  unfolding has lacks
  has_mask k h z = eqb-false (get_or T.masks k 0) 0 (not-true _ h) z

  pub mask_has : (k : ℕ) → (get_or T.masks k 0 ≡ 0 → ⊥) → has T k ≡ true
  unfolding has lacks
  mask_has k n = rw (ne_eqb (get_or T.masks k 0) 0 n)

  pub lacks_has : (k : ℕ) → lacks T k ≡ false → has T k ≡ true
  unfolding has
  lacks_has k e = rw e

  pub has_lacks : (k : ℕ) → has T k ≡ true → lacks T k ≡ false
  unfolding has
  has_lacks k e = not-true _ e

  pub allows_has : (k c : ℕ) → allows T k c ≡ true → has T k ≡ true
  unfolding allows
  allows_has k c e = mask_has k (bit_some (get_or T.masks k 0) c e)

  pub flagged_flag : (v : ℕ) → flagged T v ≡ true → get_or T.flags v 0 ≡ 0 → ⊥
  unfolding flagged
  flagged_flag v f z = eqb-false (get_or T.flags v 0) 0 (not-true _ f) z

  pub flag_flagged : (v : ℕ) → (get_or T.flags v 0 ≡ 0 → ⊥) → flagged T v ≡ true
  unfolding flagged
  flag_flagged v n = rw (ne_eqb (get_or T.flags v 0) 0 n)

-- tables inside one another

pub inside_self : (T : Table) → Inside T T
inside_self T = record { flags = λ v f. f; masks = λ k c a. a }

pub inside_trans : (T T' T'' : Table) → Inside T T' → Inside T' T'' → Inside T T''
inside_trans T T' T'' i j = record { flags = λ v f. j.flags v (i.flags v f); masks = λ k c a. j.masks k c (i.masks k c a) }

-- the outer one has a mask wherever the inner one does
pub inside_has : (T T' : Table) → Inside T T' → (k : ℕ) → has T k ≡ true → has T' k ≡ true
unfolding allows
inside_has T T' i k e =
    let l = bits_le _ (get_or T.masks k 0) (get_or T'.masks k 0) (le_refl _) (i.masks k) in
    mask_has T' k (λ z. has_mask T k e (omega arith))

-- a legal game has an action
pub legal_actions : (G : Game) → Legal G → 0 < G.actions
legal_actions G legal =
    ⊎_elim
    (λ t. let l = (legal.targets _ _ _ t.2).action in omega arith)
    (λ m. absurd (not_both legal.start_controller (legal.moves _ _ m.1).from_environment))
    (legal.live G.start legal.start_position)

module _ (G : Game) (legal : Legal G) (d : ℕ) where
  pub words_some : 0 < words G d
  unfolding words
  words_some = one-le-pow (d / 2) G.actions (legal_actions G legal)

  pub node_number : (p w : ℕ) → p < G.positions → w < words G d → p * words G d + w < (arena G d).nodes
  unfolding arena
  node_number p w h l = digits_lt h l

  node_controller : (p w : ℕ) → w < words G d → (arena G d).right (p * words G d + w) ≡ on_right (odd d) G.controller p
  unfolding arena
  node_controller p w l = ap (on_right (odd d) G.controller) (digits_div p l)

  -- a step reaches only nodes, of the right side

  even_reach : (p j k' : ℕ) → Memᴰ (to k') (outcomes false G (words G d) p j)
      → (r : ℕ) × (r < G.positions) × (G.controller r ≡ true) × (k' ≡ r * words G d + j % words G d)
  unfolding outcomes
  even_reach p j k' i = at (G.target p (j / words G d)) i
    where
      moved : (q : ℕ) → (r : ℕ) × Memᴰ r (G.moves q) × (to k' ≡ to (r * words G d + j % words G d))
          → (r : ℕ) × (r < G.positions) × (G.controller r ≡ true) × (k' ≡ r * words G d + j % words G d)
      moved q (r, m, e) = let l = legal.moves q r m in (r, l.position, l.controller, to_injective e)

      at : (t : Target) → Memᴰ (to k') (played_to G (words G d) (j % words G d) t)
          → (r : ℕ) × (r < G.positions) × (G.controller r ≡ true) × (k' ≡ r * words G d + j % words G d)
      at absent i = absurd (played_forbidden G (words G d) (j % words G d) i)
      at (to q) i =
          ⊎_elim
          (λ (s : G.safe q ≡ true). moved q (played_node G (words G d) (j % words G d) q s (to k') i))
          (λ (s : G.safe q ≡ false). absurd (played_passed G (words G d) (j % words G d) q s i))
          (bool (G.safe q))

  odd_reach : (p j k' : ℕ) → Memᴰ (to k') (outcomes true G (words G d) p j)
      → (q : ℕ) × (q < G.positions) × (G.controller q ≡ false) × (k' ≡ q * words G d + j % words G d)
  unfolding outcomes
  odd_reach p j k' i =
      let x = Memᴰ.of_map (moved_to G (words G d) (j / words G d) (j % words G d)) (G.moves p) i in
      let y = moved_passed G (words G d) (j % words G d) (j / words G d) x.0 k' x.2 in
      let l = legal.targets x.0 (j / words G d) y.0 y.2 in
      (y.0, l.position, l.environment, y.3)

  pub step_legal : (k c k' : ℕ) → Memᴰ (to k') ((arena G d).step k c) → (k' < (arena G d).nodes) × ((arena G d).right k' ≡ true)
  unfolding arena step
  step_legal k c k' i = reach (odd d) refl i
    where
      found : (p w : ℕ) → p < G.positions → on_right (odd d) G.controller p ≡ true → w < words G d → k' ≡ p * words G d + w
          → (k' < G.positions * words G d) × (on_right (odd d) G.controller (k' / words G d) ≡ true)
      found p w h r l e = rw e (node_number p w h l, node_controller p w l ∙ r)

      reach : (b : Bool) → odd d ≡ b → Memᴰ (to k') (outcomes b G (words G d) (k / words G d) ((k % words G d) * G.actions + c))
          → (k' < G.positions * words G d) × (on_right (odd d) G.controller (k' / words G d) ≡ true)
      reach false e i =
          let (r, h, o, q) = even_reach _ _ k' i in
          found r _ h (right_even G (odd d) r e ∙ o) (mod-lt _ words_some) q
      reach true e i =
          let (p, h, y, q) = odd_reach _ _ k' i in
          found p _ h (right_odd G (odd d) p e ∙ ap not y) (mod-lt _ words_some) q

  -- so two readings of what has fallen that agree at the nodes spoil the same actions
  pub unspoilt_too : (f g : ℕ → Bool) → ((k : ℕ) → k < (arena G d).nodes → f k ≡ g k) → (k c : ℕ) → spoilt_by (arena G d) f k c ≡ false
      → spoilt_by (arena G d) g k c ≡ false
  unspoilt_too f g same k c e =
      unspoilt (arena G d) g k c
      (λ o i.
      let x = unspoilt_outcome (arena G d) f k c e i in
      let l = step_legal k c x.0 (rw x.1 at i) in
      (x.0, x.1, sym (same x.0 l.0) ∙ x.2))

  pub even_word : (v : ℕ) → odd d ≡ false → v < initial_words G d → v < words G d
  unfolding initial_words words
  even_word v e l =
      let m = even_delay d e in
      let q : initial_length d ≡ d / 2 = omega arith in
      rw q at l

  -- a first word asks about nodes of the right side alone, and more kept ones among them keep it good
  pub good_sided : (keeps keeps' : ℕ → Bool) (v : ℕ) → v < initial_words G d
      → ((k : ℕ) → k < (arena G d).nodes → (arena G d).right k ≡ true → keeps k ≡ true → keeps' k ≡ true)
      → good_from G d keeps v ≡ true → good_from G d keeps' v ≡ true
  unfolding good_from
  good_sided keeps keeps' v l f e =
      starts_good G (words G d) keeps' v (odd d) (more (odd d) refl (good_starts G (words G d) keeps v (odd d) e))
    where
      more : (b : Bool) → odd d ≡ b → Starts b G (words G d) (λ k. keeps k ≡ true) v → Starts b G (words G d) (λ k. keeps' k ≡ true) v
      more false e s =
          let w = even_word v e l in
          f _ (node_number G.start v legal.start_position w)
          (node_controller G.start v w ∙ right_even G (odd d) G.start e ∙ legal.start_controller)
          s
      more true e s =
          let t = legal.targets _ _ _ s.1.1 in
          let w = mod-lt v words_some in (
            s.0,
            (
              s.1.0,
              s.1.1,
              f _ (node_number s.1.0 (v % words G d) t.position w)
                  (node_controller s.1.0 (v % words G d) w ∙ right_odd G (odd d) s.1.0 e ∙ ap not t.environment)
                  s.1.2,
            ),
          )

  pub good_more : (keeps keeps' : ℕ → Bool) (v : ℕ) → v < initial_words G d → ((k : ℕ) → k < (arena G d).nodes → keeps k ≡ true → keeps' k ≡ true)
      → good_from G d keeps v ≡ true → good_from G d keeps' v ≡ true
  good_more keeps keeps' v l f = good_sided keeps keeps' v l (λ k h r. f k h)

-- any choice out of a judged table wins

module _ (G : Game) (legal : Legal G) (d : ℕ) (T : Table) (judged : Judged G d T) where
  -- an allowed action's outcomes have masks
  pub judged_outcome : (k c : ℕ) → k < (arena G d).nodes → c < G.actions → allows T k c ≡ true → (o : Target)
      → Memᴰ o ((arena G d).step k c) → (k' : ℕ) × (o ≡ to k') × (has T k' ≡ true)
  judged_outcome k c h l a o i =
      let x = unspoilt_outcome (arena G d) (lacks T) k c (judged.unspoilt k c h l a) i in
      (x.0, x.1, lacks_has T x.0 x.2)

  -- the strategy's first word is flagged, and where it reaches a mask it gives an action out of it
  pub record Picks (σ : Strategy G.actions d) : Type 0 where
    pub first : flagged T σ.initial ≡ true
    pub given : (π : Play) → Seen G legal d σ π → has T (node G d σ π) ≡ true → allows T (node G d σ π) (σ.given π) ≡ true

  module _ (σ : Strategy G.actions d) (picks : Picks σ) where
    keeping : KeepsInside G legal d σ (λ k. has T k ≡ true)
    keeping =
        record {
          safe = λ k h r s. judged.safe k h s;
          inside =
              λ π s x.
              judged_outcome (node G d σ π) (σ.given π) (seen_node G legal d σ s) (σ.given_action π) (picks.given π s x);
        }

    starts : Starts (odd d) G (words G d) (λ k. has T k ≡ true) σ.initial
    unfolding initial_words good_from
    starts = good_starts G (words G d) (has T) σ.initial (odd d) (judged.words σ.initial σ.initial_word picks.first)

    pub picks_wins : Wins G d σ
    picks_wins = keeping_wins G legal d σ (λ k. has T k ≡ true) keeping starts

    pub picks_has : {π : Play} → Seen G legal d σ π → has T (node G d σ π) ≡ true
    picks_has s = keeping_node G legal d σ (λ k. has T k ≡ true) keeping starts s

  pub obeys_wins : (σ : Strategy G.actions d) → Obeys G d σ T → Wins G d σ
  obeys_wins σ o =
      picks_wins σ (record { first = o.first; given = λ π s x. o.given π s.consistent s.right })
