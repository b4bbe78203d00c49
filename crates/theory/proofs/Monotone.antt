-- Monotonicity in the delay: a strategy for delay d + 1, played without its newest information, wins at delay d. So the asked delay
-- wins exactly if no delay up to it loses, and the losing delay of the answer is the least at which no strategy wins.
-- Assumes nothing.
use Prim.Native.Nat.{ℕ, zero, suc, ◌+◌, ◌-◌, ◌*◌, ◌/◌, ◌^◌, ◌≤◌, ◌<◌}
use mathlib.Core.Path.{◌≡◌, refl, sym, ◌∙◌, ap}
use mathlib.Core.Bool.{Bool, true, false}
use mathlib.Core.Logic.{◌↔◌, ⊎_elim}
use native.Mathlib.Omega.{arith}
use native.Mathlib.Nat.{pow-suc, div-lt_iff_lt-mul}
use Rattle.theory.specs.Fold.{first_not}
use Rattle.theory.specs.Words.{digit}
use Rattle.theory.specs.Game.{Game, Legal}
use Rattle.theory.specs.Play.{Play, origin, act, move, turns, index, back}
use Rattle.theory.specs.Strategy.{initial_length, Strategy, action_of, choice, by_action, by_move, Consistent, here, then, Wins, Winnable}
use Rattle.theory.specs.Delay.{odd, winning, wins, losing, answer_by, answer}
use Rattle.theory.proofs.Fold.{bool, not_both, below?, all_fails, first, First, first_unique}
use Rattle.theory.proofs.Words.{digit_lt, digit_shorter}
use Rattle.theory.proofs.Plays.{consistent_play, controller_index, back_back, index_back}
use Rattle.theory.proofs.Pending.{odd_delay, even_delay, some_action, early_action, late_action}
use Rattle.theory.proofs.NodeStrategy.{winning_iff}

module _ {A : ℕ} (d : ℕ) (σ : Strategy A (suc d)) where
  -- the first word: an even d has one action less, the newest
  sooner : Bool → ℕ
  sooner true = σ.initial
  sooner false = σ.initial / A

  sooner_lt : (b : Bool) → odd d ≡ b → sooner b < A ^ initial_length d
  unfolding sooner
  sooner_lt true e =
      let m = odd_delay d e in
      let q : initial_length (suc d) ≡ initial_length d = omega arith in
      rw q at σ.initial_word
  sooner_lt false e =
      let m = even_delay d e in
      let q : initial_length (suc d) ≡ suc (initial_length d) = omega arith in
      let l : σ.initial < A ^ initial_length d * A = rw (q, pow-suc A (initial_length d)) at σ.initial_word in
      (div-lt_iff_lt-mul (some_action (suc d) σ)).1 l

  sooner_digit : (b : Bool) → odd d ≡ b → (i : ℕ) → 2 * i < d
      → digit A (initial_length d) (sooner b) i ≡ digit A (initial_length (suc d)) σ.initial i
  unfolding sooner
  sooner_digit true e i l =
      let m = odd_delay d e in
      let q : initial_length d ≡ initial_length (suc d) = omega arith in
      ap (λ n. digit A n σ.initial i) q
  sooner_digit false e i l =
      let m = even_delay d e in
      let q : suc (initial_length d) ≡ initial_length (suc d) = omega arith in
      sym (digit_shorter A (initial_length d) σ.initial i (omega arith)) ∙ ap (λ n. digit A n σ.initial i) q

  -- what was given one move earlier; before that, the first word's newest action
  waits : Play → ℕ
  waits origin = digit A (initial_length (suc d)) σ.initial (d / 2)
  waits (act π c q) = σ.given π
  waits (move π r) = σ.given π

  waits_lt : (π : Play) → waits π < A
  unfolding waits
  waits_lt origin = digit_lt A (initial_length (suc d)) σ.initial (d / 2) (some_action (suc d) σ)
  waits_lt (act π c q) = σ.given_action π
  waits_lt (move π r) = σ.given_action π

  pub waiting : Strategy A d
  waiting = record { initial = sooner (odd d); initial_word = sooner_lt (odd d) refl; given = waits; given_action = waits_lt }

  waits_later : (π : Play) → 0 < index π → waits π ≡ σ.given (back 1 π)
  unfolding waits index back
  waits_later origin h = absurd (omega arith)
  waits_later (act π c q) h = refl
  waits_later (move π r) h = refl

  waits_first : (π : Play) → index π ≡ 0 → waits π ≡ digit A (initial_length (suc d)) σ.initial (d / 2)
  unfolding waits index
  waits_first origin e = refl
  waits_first (act π c q) e = absurd (omega arith)
  waits_first (move π r) e = absurd (omega arith)

  waiting_first : waiting.initial ≡ sooner (odd d)
  unfolding waiting
  waiting_first = refl

  waiting_given : (π : Play) → waiting.given π ≡ waits π
  unfolding waiting
  waiting_given π = refl

  -- on a play that ends at an own position both choose the same action
  waiting_choice : (π : Play) → index π ≡ 2 * turns π → choice d waiting π ≡ choice (suc d) σ π
  unfolding choice
  waiting_choice π e =
      ⊎_elim
      (λ (l : 2 * turns π < d).
      early_action d waiting (turns π) _ l
      ∙ ap (λ v. digit A (initial_length d) v (turns π)) waiting_first
      ∙ sooner_digit (odd d) refl (turns π) l
      ∙ sym (early_action (suc d) σ (turns π) _ (omega arith)))
      (λ (l : d ≤ 2 * turns π).
      late_action d waiting (turns π) _ l ∙ waiting_given (back d π) ∙ late l)
      (below? (2 * turns π) d)
    where
      late : d ≤ 2 * turns π → waits (back d π) ≡ action_of (suc d) σ (turns π) (back (suc d) π)
      late l =
          let i = index_back d π in
          ⊎_elim
          (λ (h : 2 * turns π < suc d).
          let q : d / 2 ≡ turns π = omega arith in
          waits_first (back d π) (omega arith)
          ∙ ap (λ i. digit A (initial_length (suc d)) σ.initial i) q
          ∙ sym (early_action (suc d) σ (turns π) _ h))
          (λ (h : suc d ≤ 2 * turns π).
          let q : 1 + d ≡ suc d = omega arith in
          waits_later (back d π) (omega arith)
          ∙ ap σ.given (back_back 1 d π ∙ ap (λ n. back n π) q)
          ∙ sym (late_action (suc d) σ (turns π) _ h))
          (below? (2 * turns π) (suc d))

module _ (G : Game) (legal : Legal G) (d : ℕ) (σ : Strategy G.actions (suc d)) where
  -- so its plays are plays of the strategy for the longer delay
  waiting_consistent : {π : Play} → Consistent G d (waiting d σ) π → Consistent G (suc d) σ π
  waiting_consistent here = here
  waiting_consistent (then {π} c (by_action q e)) =
      let o = (legal.targets _ _ q e).from_controller in
      let w = waiting_choice d σ π (controller_index legal (consistent_play c) o) in
      rw w (then (waiting_consistent c) (by_action q (rw w at e)))
  waiting_consistent (then c (by_move r m)) = then (waiting_consistent c) (by_move r m)

  pub waiting_wins : Wins G (suc d) σ → Wins G d (waiting d σ)
  waiting_wins w =
      record {
        playable =
            λ π c o.
            rw (waiting_choice d σ π (controller_index legal (consistent_play c) o)) (w.playable π (waiting_consistent c) o);
        safe = λ π c. w.safe π (waiting_consistent c);
      }

module _ (G : Game) (legal : Legal G) where
  pub winnable_less : (d : ℕ) → Winnable G (suc d) → Winnable G d
  winnable_less d (σ, w) = (waiting d σ, waiting_wins G legal d σ w)

  pub winning_less : (d : ℕ) → winning G (suc d) ≡ true → winning G d ≡ true
  winning_less d e = (winning_iff G legal d).1 (winnable_less d ((winning_iff G legal (suc d)).0 e))

  winning_down : (d n : ℕ) → winning G (n + d) ≡ true → winning G d ≡ true
  winning_down d zero e = let q : 0 + d ≡ d = omega arith in rw q at e
  winning_down d (suc n) e = let q : suc n + d ≡ suc (n + d) = omega arith in winning_down d n (winning_less (n + d) (rw q at e))

  -- the asked delay wins exactly if no delay up to it loses
  pub winning_all : (d : ℕ) → (winning G d ≡ true) ↔ ((j : ℕ) → j ≤ d → winning G j ≡ true)
  winning_all d =
      (λ e j l. let q : (d - j) + j ≡ d = omega arith in winning_down j (d - j) (rw q e), λ f. f d (omega arith))

  -- the answer

  pub answer_wins : (d : ℕ) → winning G d ≡ true → answer G d ≡ wins
  unfolding answer answer_by
  answer_wins d e = rw e

  answer_loses : (d : ℕ) → winning G d ≡ false → answer G d ≡ losing (first_not (winning G) (suc d))
  unfolding answer answer_by
  answer_loses d e = rw e

  -- the first delay from 0 upward that loses is the one that the answer names
  pub answer_found : (d m : ℕ) → m ≤ d → ((j : ℕ) → j < m → winning G j ≡ true) → winning G m ≡ false → answer G d ≡ losing m
  answer_found d m l before e =
      let f = first (winning G) (suc d) (all_fails (winning G) m (suc d) (omega arith) e) in
      let g : First (winning G) (suc m) m = record { below = omega arith; fails = e; before = before } in
      answer_loses d lost ∙ ap losing (first_unique (winning G) f g)
    where
      lost : winning G d ≡ false
      lost =
          ⊎_elim
          (λ (w : winning G d ≡ true). absurd (not_both ((winning_all d).0 w m l) e))
          (λ f. f)
          (bool (winning G d))

  -- "losing m": m is the least delay at which no strategy wins, and it is at most the asked one
  pub record Loses (d m : ℕ) : Type 0 where
    pub asked : m ≤ d
    pub none : Winnable G m → ⊥
    pub least : (j : ℕ) → j < m → Winnable G j

  pub answer_least : (d m : ℕ) → answer G d ≡ losing m → Loses d m
  answer_least d m e =
      ⊎_elim
      (λ (w : winning G d ≡ true). absurd (wins_not_losing (sym (answer_wins d w) ∙ e)))
      (λ (w : winning G d ≡ false).
      let f = first (winning G) (suc d) (all_fails (winning G) d (suc d) (omega arith) w) in
      let q : first_not (winning G) (suc d) ≡ m = losing_injective (sym (answer_loses d w) ∙ e) in
      let g : First (winning G) (suc d) m = rw q at f in
      record {
        asked = let b = g.below in omega arith;
        none = λ x. not_both ((winning_iff G legal m).1 x) g.fails;
        least = λ j h. (winning_iff G legal j).0 (g.before j h);
      })
      (bool (winning G d))
    where
      wins_not_losing : {n : ℕ} → wins ≡ losing n → ⊥
      wins_not_losing e = let z : ◌≡◌ {A = ℕ} 0 1 = cc in omega arith

      losing_injective : {n k : ℕ} → losing n ≡ losing k → n ≡ k
      losing_injective e = cc

  -- "winning" is answered exactly if a strategy wins at the asked delay
  pub answer_iff : (d : ℕ) → (answer G d ≡ wins) ↔ Winnable G d
  answer_iff d = (
    λ e.
        ⊎_elim
        (λ (w : winning G d ≡ true). (winning_iff G legal d).0 w)
        (λ (w : winning G d ≡ false). absurd (losing_not_wins (sym (answer_loses d w) ∙ e)))
        (bool (winning G d)),
    λ x. answer_wins d ((winning_iff G legal d).1 x),
  )
    where
      losing_not_wins : {n : ℕ} → losing n ≡ wins → ⊥
      losing_not_wins e = let z : ◌≡◌ {A = ℕ} 0 1 = cc in omega arith

-- and only where the asked delay passes the test
pub wins_winning : (G : Game) (d : ℕ) → answer G d ≡ wins → winning G d ≡ true
unfolding answer answer_by
wins_winning G d e =
    ⊎_elim
    (λ (w : winning G d ≡ true). w)
    (λ (l : winning G d ≡ false). let z : ◌≡◌ {A = ℕ} 0 1 = cc (rw l at e) in absurd (omega arith))
    (bool (winning G d))
