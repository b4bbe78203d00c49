-- A strategy that plays by node: it follows its pending word along the play and gives at each history the action chosen for the node
-- reached. The lowest action of a table is one such choice. Assumes nothing.
use Prim.Native.Nat.{ℕ, ◌+◌, ◌*◌, ◌/◌, ◌%◌, ◌^◌, ◌≤◌, ◌<◌}
use mathlib.Core.Path.{◌≡◌, refl, sym, ◌∙◌, ap}
use mathlib.Core.Bool.{Bool, true, false, not, cond}
use mathlib.Core.Logic.{◌↔◌, ⊎_elim}
use native.Mathlib.Omega.{arith}
use native.Mathlib.Nat.{mod-eq_of_lt}
use lib.ListN.{get_or}
use borrow.Author.Tests.{not-true, not-false}
use Rattle.theory.specs.Fold.{first_not}
use Rattle.theory.specs.Game.{Game, Legal}
use Rattle.theory.specs.Play.{Play, origin, act, move, last, last_from, turns}
use Rattle.theory.specs.Strategy.{Strategy, choice, by_action, by_move, Consistent, here, then, Wins, Winnable}
use Rattle.theory.specs.Rounds.{final_ranks}
use Rattle.theory.specs.Delay.{odd, words, initial_words, arena, good_with, winning}
use Rattle.theory.specs.Table.{Table, ours, flagged, lacks, has, bit, allows, TableFits, Judged, word, node, Obeys}
use Rattle.theory.proofs.Fold.{bool, not_both, any_holds, any_some}
use Rattle.theory.proofs.Masks.{Lowest, lowest}
use Rattle.theory.proofs.Plays.{consistent_play, environment_index}
use Rattle.theory.proofs.Pending.{odd_delay, even_delay, even_advance, odd_advance, rest, rest_is, rest_joined, even_initial, odd_initial_rest}
use Rattle.theory.proofs.Turns.{right_even, right_odd}
use Rattle.theory.proofs.Correctness.{Seen, initial_good}
use Rattle.theory.proofs.Tables.{legal_actions, has_mask, has_lacks, even_word, Picks, picks_wins, picks_has}
use Rattle.theory.proofs.OurTable.{ours_fits, ours_judged, good_flagged}

-- the pending word along a play, for the choice `at` of an action for each node and the first word v
module _ (G : Game) (m : ℕ) (at : ℕ → ℕ) (v : ℕ) where
  abbrev shifted : ℕ → ℕ → ℕ
  shifted p w = (w * G.actions + at (p * m + w)) % m

  unfoldable pub along : Bool → Play → ℕ
  along b origin = v % m
  along false (act π c q) = shifted (last G π) (along false π)
  along true (act π c q) = along true π
  along false (move π r) = along false π
  along true (move π r) = shifted (last G π) (along true π)

module _ (G : Game) (legal : Legal G) (d : ℕ) (at : ℕ → ℕ) (at_action : (k : ℕ) → at k < G.actions) (v : ℕ) (v-lt : v < initial_words G d) where
  unfoldable pub steered : Strategy G.actions d
  unfolding initial_words
  steered =
      record {
        initial = v;
        initial_word = v-lt;
        given = λ π. at (last G π * words G d + along G (words G d) at v (odd d) π);
        given_action = λ π. at_action (last G π * words G d + along G (words G d) at v (odd d) π);
      }

  abbrev walk : Play → ℕ
  walk π = along G (words G d) at v (odd d) π

  -- one turn shifts the word as the strategy does
  turned : (π : Play) → word d steered π ≡ walk π → d ≤ 2 * (turns π + d / 2)
      → rest d steered π ≡ (walk π * G.actions + at (last G π * words G d + walk π)) % words G d
  unfolding words steered
  turned π e l = rest_joined d steered π l ∙ ap (λ w. (w * G.actions + steered.given π) % G.actions ^ (d / 2)) e

  walk_start : walk origin ≡ v % words G d
  unfolding along
  walk_start = refl

  even_walk : odd d ≡ false → (π : Play) (c q r : ℕ)
      → walk (move (act π c q) r) ≡ (walk π * G.actions + at (last G π * words G d + walk π)) % words G d
  unfolding along
  even_walk e π c q r = rw e

  odd_walk : odd d ≡ true → (π : Play) (r c q : ℕ)
      → walk (act (move π r) c q) ≡ (walk π * G.actions + at (last G π * words G d + walk π)) % words G d
  unfolding along
  odd_walk e π r c q = rw e

  odd_walk_first : odd d ≡ true → (c q : ℕ) → walk (act origin c q) ≡ v % words G d
  unfolding along
  odd_walk_first e c q = rw e

  initial_is : steered.initial ≡ v
  unfolding steered
  initial_is = refl

  even_along : odd d ≡ false → {π : Play} → Consistent G d steered π → G.controller (last G π) ≡ true → word d steered π ≡ walk π
  unfolding last_from
  even_along e here o =
      even_initial d steered (even_delay d e) ∙ initial_is ∙ sym (mod-eq_of_lt (even_word G legal d v e v-lt)) ∙ sym walk_start
  even_along e (then c (by_action q t)) o = absurd (not_both o (legal.targets _ _ q t).environment)
  even_along e (then here (by_move r m)) o = absurd (not_both legal.start_controller (legal.moves _ r m).from_environment)
  even_along e (then (then c (by_move s n)) (by_move r m)) o =
      absurd (not_both (legal.moves _ s n).controller (legal.moves _ r m).from_environment)
  even_along e (then (then {π} c (by_action q t)) (by_move r m)) o =
      rest_is d steered (even_advance π (choice d steered π) q r)
      ∙ turned π (even_along e c (legal.targets _ _ q t).from_controller) (let z = even_delay d e in omega arith)
      ∙ sym (even_walk e π (choice d steered π) q r)

  odd_along : odd d ≡ true → {π : Play} → Consistent G d steered π → G.controller (last G π) ≡ false → word d steered π ≡ walk π
  unfolding last_from words
  odd_along e here y = absurd (not_both legal.start_controller y)
  odd_along e (then c (by_move r m)) y = absurd (not_both (legal.moves _ r m).controller y)
  odd_along e (then here (by_action q t)) y =
      sym (odd_initial_rest d steered (choice d steered origin) q (odd_delay d e))
      ∙ ap (λ x. x % G.actions ^ (d / 2)) initial_is
      ∙ sym (odd_walk_first e (choice d steered origin) q)
  odd_along e (then (then c (by_action p s)) (by_action q t)) y =
      absurd (not_both (legal.targets _ _ q t).from_controller (legal.targets _ _ p s).environment)
  odd_along e (then (then {π} c (by_move r m)) (by_action q t)) y =
      let f = (legal.moves _ r m).from_environment in
      rest_is d steered (odd_advance π r (choice d steered (move π r)) q)
      ∙ turned π (odd_along e c f)
      (let z = odd_delay d e in let i = environment_index legal (consistent_play c) f in omega arith)
      ∙ sym (odd_walk e π r (choice d steered (move π r)) q)

  -- at every history of the right side the strategy gives the action chosen for the node reached
  pub steered_given : (π : Play) → Seen G legal d steered π → steered.given π ≡ at (node G d steered π)
  unfolding steered node
  steered_given π s =
      ap (λ w. at (last G π * words G d + w))
      (sym
      (⊎_elim
      (λ (e : odd d ≡ true).
      odd_along e s.consistent (not-true _ (sym (right_odd G (odd d) (last G π) e) ∙ s.right)))
      (λ (e : odd d ≡ false). even_along e s.consistent (sym (right_even G (odd d) (last G π) e) ∙ s.right))
      (bool (odd d))))

-- the lowest action of a table's masks

unfoldable pub lowest_at : Game → Table → ℕ → ℕ
lowest_at G T k = cond (lacks T k) 0 (first_not (λ c. not (bit (get_or T.masks k 0) c)) G.actions)

module _ (G : Game) (legal : Legal G) (d : ℕ) (T : Table) (fits : TableFits G d T) where
  pub has_lowest : (k : ℕ) → has T k ≡ true → Lowest G.actions (get_or T.masks k 0) (lowest_at G T k)
  unfolding lowest_at
  has_lowest k e = rw (has_lacks T k e) (lowest G.actions (get_or T.masks k 0) (fits.masks_small k) (has_mask T k e))

  pub lowest_action : (k : ℕ) → lowest_at G T k < G.actions
  unfolding lowest_at has
  lowest_action k =
      ⊎_elim
      (λ (e : has T k ≡ true). (has_lowest k e).action)
      (λ (e : has T k ≡ false). rw (not-false (lacks T k) e) (legal_actions G legal))
      (bool (has T k))

  -- for every flagged word, the strategy of the lowest action is one choice out of a judged table, and so it wins
  module _ (judged : Judged G d T) (v : ℕ) (v-lt : v < initial_words G d) (v-flagged : flagged T v ≡ true) where
    unfoldable pub lowest_strategy : Strategy G.actions d
    lowest_strategy = steered G legal d (lowest_at G T) lowest_action v v-lt

    lowest_picks : Picks G legal d T judged lowest_strategy
    unfolding lowest_strategy steered allows
    lowest_picks =
        record {
          first = v-flagged;
          given =
              λ π s e.
              rw (steered_given G legal d (lowest_at G T) lowest_action v v-lt π s)
              (has_lowest (node G d lowest_strategy π) e).allowed;
        }

    pub lowest_wins : Wins G d lowest_strategy
    lowest_wins = picks_wins G legal d T judged lowest_strategy lowest_picks

    pub lowest_has : {π : Play} → Seen G legal d lowest_strategy π → has T (node G d lowest_strategy π) ≡ true
    lowest_has s = picks_has G legal d T judged lowest_strategy lowest_picks s

    pub lowest_obeys : Obeys G d lowest_strategy T
    lowest_obeys =
        record {
          first = lowest_picks.first;
          given =
              λ π c r.
              let s : Seen G legal d lowest_strategy π = record { consistent = c; right = r } in
              lowest_picks.given π s (lowest_has s);
        }

-- demand 2: the rounds say winning exactly if a strategy of Definition 5 wins

module _ (G : Game) (legal : Legal G) (d : ℕ) where
  pub winning_strategy : winning G d ≡ true → Winnable G d
  unfolding winning
  winning_strategy e =
      let (v, h, g) = any_some (good_with G d (final_ranks (arena G d))) (initial_words G d) e in
      let fits = ours_fits G d in
      let judged = ours_judged G legal d in
      let f = good_flagged G d v h g in
      (lowest_strategy G legal d (ours G d) fits judged v h f, lowest_wins G legal d (ours G d) fits judged v h f)

  pub strategy_winning : Winnable G d → winning G d ≡ true
  unfolding winning initial_words
  strategy_winning (σ, w) =
      any_holds (good_with G d (final_ranks (arena G d))) σ.initial _ σ.initial_word (initial_good G legal d σ w)

  pub winning_iff : (winning G d ≡ true) ↔ Winnable G d
  winning_iff = (winning_strategy, strategy_winning)
