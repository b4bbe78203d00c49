-- The exact play by any judged table (specs/Exact.antt): it is the lowest action's strategy at work, so it never ends and all its
-- positions are safe. The part of demand 3 that has no call and no state in it. Assumes nothing.
use Prim.Native.Nat.{ℕ, zero, suc, ◌+◌, ◌-◌, ◌*◌, ◌/◌, ◌^◌, ◌≤◌, ◌<◌}
use mathlib.Core.Path.{◌≡◌, refl, sym, ◌∙◌, ap, ap₂}
use mathlib.Core.Bool.{true, false, not}
use mathlib.Core.Logic.{⊎_elim}
use native.Mathlib.Omega.{arith}
use lib.ListN.{length, get_or}
use borrow.Author.Tests.{lt-ltb, le-ltb, not-false}
use Rattle.theory.specs.Words.{encode, digit}
use Rattle.theory.specs.Game.{Game, to, Legal}
use Rattle.theory.specs.Play.{Play, origin, act, move, last, last_from, turns, index, back, last_actions, IsPlay, Rule, IsRule}
use Rattle.theory.specs.Strategy.{initial_length, Strategy, action_of, choice, by_action, by_move, Consistent, here, then, Wins}
use Rattle.theory.specs.Delay.{odd, words, initial_words}
use Rattle.theory.specs.Table.{Table, flagged, has, TableFits, Judged, pending, word, node}
use Rattle.theory.specs.Exact.{some, least_flagged, lowest_in, action_at, going, arrive, advance, turn_by, play_by, exact_choice, exact}
use Rattle.theory.proofs.Fold.{bool, not_both, below?, all_fails, first}
use Rattle.theory.proofs.Words.{encode_suc, encode_zero, encode_same}
use Rattle.theory.proofs.Masks.{lowest_acts}
use Rattle.theory.proofs.Plays.{consistent_play, back_consistent, back_back, index_back, controller_index, play_turns, even_controller, odd_environment}
use Rattle.theory.proofs.Pending.{odd_delay, even_delay, early_action, late_action, choice_lt}
use Rattle.theory.proofs.Turns.{right_even, right_odd}
use Rattle.theory.proofs.Correctness.{Seen}
use Rattle.theory.proofs.Tables.{has_mask, has_lacks}
use Rattle.theory.proofs.OurTable.{flagged_word}
use Rattle.theory.proofs.NodeStrategy.{steered, steered_given, lowest_at, lowest_action, lowest_strategy, lowest_wins, lowest_has}

-- the least flagged word is flagged
pub least_flagged_lem : (G : Game) (d : ℕ) (T : Table) → TableFits G d T → (v : ℕ) → flagged T v ≡ true
    → (least_flagged T < initial_words G d) × (flagged T (least_flagged T) ≡ true)
unfolding least_flagged
least_flagged_lem G d T fits v e =
    let l : v < length T.flags = rw fits.flags_length (flagged_word G d T fits v e) in
    let f = first (λ w. not (flagged T w)) (length T.flags) (all_fails (λ w. not (flagged T w)) v _ l (rw e)) in
    let b = f.below in
    let q = fits.flags_length in
    (omega arith, not-false _ f.fails)

-- the actions last played are those that were pending

module _ (G : Game) (legal : Legal G) (d : ℕ) (σ : Strategy G.actions d) where
  -- the action of turn i as the strategy chose it, from the play up to index 2i - d
  played : Play → ℕ → ℕ → ℕ
  played π n k = action_of d σ (turns π - n + k) (back (d + 2 * (n - k)) π)

  none_played : (π : Play) → last_actions G.actions π 0 ≡ 0
  unfolding last_actions
  none_played origin = refl
  none_played (act π c q) = refl
  none_played (move π r) = none_played π

  one_more : (π : Play) (q r n : ℕ) → n ≤ turns π → last_actions G.actions π n ≡ encode G.actions (played π n) n
      → last_actions G.actions (move (act π (choice d σ π) q) r) (suc n)
      ≡ encode G.actions (played (move (act π (choice d σ π) q) r) (suc n)) (suc n)
  unfolding last_actions played turns choice back
  one_more π q r n l e =
      ap (λ w. w * G.actions + choice d σ π) e
      ∙ ap₂ (λ w c. w * G.actions + c)
      (encode_same G.actions _ _ n
      (λ k h.
      let t : turns π - n + k ≡ suc (turns π) - suc n + k = omega arith in
      let b : suc (suc (d + 2 * (n - k))) ≡ d + 2 * (suc n - k) = omega arith in
      ap₂ (λ i m. action_of d σ i (back m (move (act π (choice d σ π) q) r))) t b))
      (let t : turns π ≡ suc (turns π) - suc n + n = omega arith in
      let b : suc (suc d) ≡ d + 2 * (suc n - n) = omega arith in
      ap₂ (λ i m. action_of d σ i (back m (move (act π (choice d σ π) q) r))) t b)
      ∙ sym (encode_suc G.actions _ n)

  last_played : {π : Play} → Consistent G d σ π → G.controller (last G π) ≡ true → (n : ℕ) → n ≤ turns π
      → last_actions G.actions π n ≡ encode G.actions (played π n) n
  unfolding last_from turns
  last_played {π} c o zero l = none_played π ∙ sym (encode_zero G.actions (played π 0))
  last_played here o (suc n) l = absurd (omega arith)
  last_played (then c (by_action q t)) o (suc n) l = absurd (not_both o (legal.targets _ _ q t).environment)
  last_played (then here (by_move r m)) o (suc n) l = absurd (not_both legal.start_controller (legal.moves _ r m).from_environment)
  last_played (then (then c (by_move x y)) (by_move r m)) o (suc n) l =
      absurd (not_both (legal.moves _ x y).controller (legal.moves _ r m).from_environment)
  last_played (then (then {π} c (by_action q t)) (by_move r m)) o (suc n) l =
      one_more π q r n (omega arith) (last_played {π = π} c (legal.targets _ _ q t).from_controller n (omega arith))

  -- so they are the pending word of the history one delay back
  pub pending_played : {π : Play} → Consistent G d σ π → G.controller (last G π) ≡ true → d ≤ index π
      → last_actions G.actions π (d / 2) ≡ word d σ (back d π)
  unfolding word pending played
  pending_played {π} c o l =
      let i = controller_index legal (consistent_play c) o in
      let j = index_back d π in
      let t = play_turns legal (consistent_play (back_consistent d c)) in
      last_played c o (d / 2) (omega arith)
      ∙ encode_same G.actions _ _ (d / 2)
      (λ k h.
      let e : turns π - d / 2 + k ≡ turns (back d π) + k = omega arith in
      let b : d + 2 * (d / 2 - k) ≡ 2 * (d / 2 - k) + d = omega arith in
      ap₂ (λ i p. action_of d σ i p) e (ap (λ m. back m π) b ∙ sym (back_back (2 * (d / 2 - k)) d π)))

  -- so document 01's "pair" of a turn is the node of that history
  pub node_played : {π : Play} → Consistent G d σ π → G.controller (last G π) ≡ true → d ≤ index π
      → last G (back d π) * G.actions ^ (d / 2) + last_actions G.actions π (d / 2) ≡ node G d σ (back d π)
  unfolding node words
  node_played {π} c o l = ap (λ x. last G (back d π) * G.actions ^ (d / 2) + x) (pending_played c o l)

  -- and that history is of the right side
  pub back_seen : {π : Play} → Consistent G d σ π → G.controller (last G π) ≡ true → d ≤ index π → Seen G legal d σ (back d π)
  back_seen {π} c o l =
      let i = controller_index legal (consistent_play c) o in
      let j = index_back d π in
      let p = consistent_play (back_consistent d c) in
      record {
        consistent = back_consistent d c;
        right =
            ⊎_elim
            (λ (e : odd d ≡ true).
            let m = odd_delay d e in
            right_odd G (odd d) (last G (back d π)) e ∙ ap not (odd_environment legal p (omega arith)))
            (λ (e : odd d ≡ false).
            let m = even_delay d e in
            right_even G (odd d) (last G (back d π)) e ∙ even_controller legal p (omega arith))
            (bool (odd d));
      }

-- the exact play after n turns

pub record Goes (G : Game) (d : ℕ) (T : Table) (rule : Rule) (n : ℕ) : Type 0 where
  pub play : Play
  pub is : exact G d T rule n ≡ going play
  pub turn : turns play ≡ n
  pub index_is : index play ≡ 2 * n
  pub of_game : IsPlay G play
  pub own : G.controller (last G play) ≡ true
  -- every position so far is safe
  pub safe : (k : ℕ) → G.safe (last G (back k play)) ≡ true
  -- the next action is there and permitted
  pub action : ℕ
  pub action_lt : action < G.actions
  pub has_action : exact_choice G d T play ≡ some action
  pub target : ℕ
  pub permitted : G.target (last G play) action ≡ to target

module _ (G : Game) (legal : Legal G) (d : ℕ) (T : Table) (fits : TableFits G d T) (judged : Judged G d T) (w : ℕ) (w-flagged : flagged T w ≡ true) where
  abbrev σ : Strategy G.actions d
  σ =
      let l = least_flagged_lem G d T fits w w-flagged in
      lowest_strategy G legal d T fits judged (least_flagged T) l.0 l.1

  first_word : σ.initial ≡ least_flagged T
  unfolding lowest_strategy steered
  first_word = refl

  given_lowest : (π : Play) → Seen G legal d σ π → σ.given π ≡ lowest_at G T (node G d σ π)
  unfolding lowest_strategy
  given_lowest π s =
      steered_given G legal d (lowest_at G T) (lowest_action G legal d T fits) (least_flagged T) (least_flagged_lem G d T fits w w-flagged).0 π s

  mask_action : (k : ℕ) → has T k ≡ true → lowest_in G.actions (get_or T.masks k 0) ≡ some (lowest_at G T k)
  unfolding lowest_at
  mask_action k e = rw (has_lacks T k e) (lowest_acts G.actions (get_or T.masks k 0) (has_mask T k e))

  -- the rule for actions is the strategy's choice
  exact_choice_lem : {π : Play} → Consistent G d σ π → G.controller (last G π) ≡ true → exact_choice G d T π ≡ some (choice d σ π)
  unfolding exact_choice action_at choice
  exact_choice_lem {π} c o =
      let i = controller_index legal (consistent_play c) o in
      ⊎_elim
      (λ (l : 2 * turns π < d).
      rw (lt-ltb (2 * turns π) d l)
      (ap some (sym (early_action d σ (turns π) (back d π) l ∙ ap (λ v. digit G.actions (initial_length d) v (turns π)) first_word)))
      )
      (λ (l : d ≤ 2 * turns π).
      rw (le-ltb (2 * turns π) d l)
      (late (omega arith) ∙ ap some (sym (late_action d σ (turns π) (back d π) l))))
      (below? (2 * turns π) d)
    where
      late : d ≤ index π
          → lowest_in G.actions (get_or T.masks (last G (back d π) * G.actions ^ (d / 2) + last_actions G.actions π (d / 2)) 0)
          ≡ some (σ.given (back d π))
      late l =
          let s = back_seen G legal d σ c o l in
          let h = lowest_has G legal d T fits judged (least_flagged T) (least_flagged_lem G d T fits w w-flagged).0 (least_flagged_lem G d T fits w w-flagged).1 s in
          ap (λ k. lowest_in G.actions (get_or T.masks k 0)) (node_played G legal d σ c o l)
          ∙ mask_action (node G d σ (back d π)) h
          ∙ ap some (sym (given_lowest (back d π) s))

  wins_σ : Wins G d σ
  wins_σ =
      let l = least_flagged_lem G d T fits w w-flagged in
      lowest_wins G legal d T fits judged (least_flagged T) l.0 l.1

  -- a turn of the exact play
  one_turn : (rule : Rule) (n : ℕ) (π : Play) (c q : ℕ) → exact G d T rule n ≡ going π → exact_choice G d T π ≡ some c
      → G.target (last G π) c ≡ to q → exact G d T rule (suc n) ≡ going (move (act π c q) (rule (act π c q)))
  unfolding exact play_by turn_by advance arrive
  one_turn rule n π c q e g t = ap (turn_by G rule (exact_choice G d T)) e ∙ rw (g, advance) (rw t)

  reaches : (rule : Rule) → IsRule G rule → (n : ℕ)
      → (π : Play) × Consistent G d σ π × (exact G d T rule n ≡ going π) × (turns π ≡ n) × (G.controller (last G π) ≡ true)
  unfolding exact play_by turns last_from
  reaches rule is zero = (origin, here, refl, refl, legal.start_controller)
  reaches rule is (suc n) = next (reaches rule is n)
    where
      next : (π : Play) × Consistent G d σ π × (exact G d T rule n ≡ going π) × (turns π ≡ n) × (G.controller (last G π) ≡ true)
          → (π : Play) × Consistent G d σ π × (exact G d T rule (suc n) ≡ going π) × (turns π ≡ suc n) × (G.controller (last G π) ≡ true)
      next (π, c, e, t, o) =
          let p = wins_σ.playable π c o in
          let c' = then c (by_action p.0 p.1) in
          let m = is _ (consistent_play c') (legal.targets _ _ _ p.1).environment in (
            move (act π (choice d σ π) p.0) (rule (act π (choice d σ π) p.0)),
            then c' (by_move _ m),
            one_turn rule n π (choice d σ π) p.0 e (exact_choice_lem c o) p.1,
            ap suc t,
            (legal.moves _ _ m).controller,
          )

  -- it goes on for ever, is safe, and always has a permitted action
  pub exact_goes : (rule : Rule) → IsRule G rule → (n : ℕ) → Goes G d T rule n
  exact_goes rule is n =
      let (π, c, e, t, o) = reaches rule is n in
      let p = wins_σ.playable π c o in
      let i = controller_index legal (consistent_play c) o in
      record {
        play = π;
        is = e;
        turn = t;
        index_is = omega arith;
        of_game = consistent_play c;
        own = o;
        safe = λ k. wins_σ.safe (back k π) (back_consistent k c);
        action = choice d σ π;
        action_lt = choice_lt d σ π;
        has_action = exact_choice_lem c o;
        target = p.0;
        permitted = p.1;
      }
