-- The pending word of a strategy at a history, and the step of the arena at the node reached: the one place with the arithmetic
-- of the delay's parity. Assumes nothing.
use Prim.Native.Nat.{ℕ, suc, ◌+◌, ◌-◌, ◌*◌, ◌/◌, ◌%◌, ◌^◌, ◌≤◌, ◌<◌}
use mathlib.Core.Path.{◌≡◌, refl, sym, ◌∙◌, ap, ap₂}
use mathlib.Core.Bool.{true, false}
use mathlib.Core.Logic.{⊎_elim}
use mathlib.Core.List.{map}
use native.Mathlib.Omega.{arith}
use lib.Arith.{digits_div, digits_mod, digits_lt}
use borrow.Author.Tests.{eqb-true, eqb-false, lt-ltb, le-ltb}
use Rattle.theory.specs.Words.{encode, digit}
use Rattle.theory.specs.Game.{Game}
use Rattle.theory.specs.Play.{Play, origin, act, move, last, last_from, turns, back}
use Rattle.theory.specs.Strategy.{Strategy, initial_length, action_of, choice}
use Rattle.theory.specs.Delay.{odd, words, on_right, moved_to, played_to, outcomes, step, arena}
use Rattle.theory.specs.Table.{pending, word, node}
use Rattle.theory.proofs.Fold.{below?}
use Rattle.theory.proofs.Words.{encode_suc, encode_same, encode_lt, oldest, younger, digit_lt, encode_digit}

pub odd_delay : (d : ℕ) → odd d ≡ true → d % 2 ≡ 1
unfolding odd
odd_delay d e = eqb-true _ _ e

pub even_delay : (d : ℕ) → odd d ≡ false → d % 2 ≡ 0
unfolding odd
even_delay d e =
    ⊎_elim
    (λ (h : d % 2 < 1). omega arith)
    (λ (h : 1 ≤ d % 2). absurd (eqb-false (d % 2) 1 e (omega arith)))
    (below? (d % 2) 1)

-- the whole of one turn, from a history to the next of the same side
pub record Advance (π π' : Play) : Type 0 where
  pub turn : turns π' ≡ suc (turns π)
  pub history : (n : ℕ) → back (suc (suc n)) π' ≡ back n π

pub even_advance : (π : Play) (c q r : ℕ) → Advance π (move (act π c q) r)
unfolding turns back
even_advance π c q r = record { turn = refl; history = λ n. refl }

pub odd_advance : (π : Play) (r c q : ℕ) → Advance π (act (move π r) c q)
unfolding turns back
odd_advance π r c q = record { turn = refl; history = λ n. refl }

module _ {A : ℕ} (d : ℕ) (σ : Strategy A d) where
  pub some_action : 0 < A
  some_action = let h = σ.given_action origin in omega arith

  pub early_action : (i : ℕ) (h : Play) → 2 * i < d → action_of d σ i h ≡ digit A (initial_length d) σ.initial i
  unfolding action_of
  early_action i h l = rw (lt-ltb (2 * i) d l)

  pub late_action : (i : ℕ) (h : Play) → d ≤ 2 * i → action_of d σ i h ≡ σ.given h
  unfolding action_of
  late_action i h l = rw (le-ltb (2 * i) d l)

  pub action_lt : (i : ℕ) (h : Play) → action_of d σ i h < A
  action_lt i h =
      ⊎_elim
      (λ (l : 2 * i < d). rw (early_action i h l) (digit_lt A (initial_length d) σ.initial i some_action))
      (λ (l : d ≤ 2 * i). rw (late_action i h l) (σ.given_action h))
      (below? (2 * i) d)

  pub pending_lt : (π : Play) (k : ℕ) → pending d σ π k < A
  unfolding pending
  pending_lt π k = action_lt (turns π + k) (back (2 * (d / 2 - k)) π)

  pub choice_lt : (π : Play) → choice d σ π < A
  unfolding choice
  choice_lt π = action_lt (turns π) (back d π)

  pub word_lt : (π : Play) → word d σ π < A ^ (d / 2)
  unfolding word
  word_lt π = encode_lt A (pending d σ π) (d / 2) (λ i h. pending_lt π i)

  -- the pending word without its oldest action, with the one given at π joined
  pub rest : Play → ℕ
  rest π = encode A (λ k. pending d σ π (suc k)) (d / 2)

  pub rest_lt : (π : Play) → rest π < A ^ (d / 2)
  unfolding rest
  rest_lt π = encode_lt A (λ k. pending d σ π (suc k)) (d / 2) (λ i h. pending_lt π (suc i))

  -- at a turn's end the rest is the pending word
  pub rest_is : {π π' : Play} → Advance π π' → word d σ π' ≡ rest π
  unfolding word rest pending
  rest_is {π} {π'} a =
      encode_same A _ _ (d / 2)
      (λ k h.
      let t : turns π' + k ≡ turns π + suc k = let s = a.turn in omega arith in
      let n : 2 * (d / 2 - k) ≡ suc (suc (2 * (d / 2 - suc k))) = omega arith in
      ap₂ (λ i p. action_of d σ i p) t (ap (λ m. back m π') n ∙ a.history (2 * (d / 2 - suc k))))

  -- the action given at π is the last of its pending ones, from the first history of the right side on
  pub given_pending : (π : Play) → d ≤ 2 * (turns π + d / 2) → pending d σ π (d / 2) ≡ σ.given π
  unfolding pending back
  given_pending π l =
      let z : 2 * (d / 2 - d / 2) ≡ 0 = omega arith in
      late_action (turns π + d / 2) _ l ∙ ap (λ n. σ.given (back n π)) z

  joined : (π : Play) → d ≤ 2 * (turns π + d / 2) → word d σ π * A + σ.given π ≡ encode A (pending d σ π) (suc (d / 2))
  unfolding word
  joined π l = rw (encode_suc A (pending d σ π) (d / 2), given_pending π l)

  pub rest_joined : (π : Play) → d ≤ 2 * (turns π + d / 2) → rest π ≡ (word d σ π * A + σ.given π) % A ^ (d / 2)
  unfolding rest
  rest_joined π l =
      sym (younger A (pending d σ π) (d / 2) (λ i h. pending_lt π i)) ∙ ap (λ x. x % A ^ (d / 2)) (sym (joined π l))

  -- where h is played: even delay, at the history's own position; odd delay, after the environment's next move
  pub even_choice : (π : Play) → d % 2 ≡ 0 → choice d σ π ≡ pending d σ π 0
  unfolding choice pending
  even_choice π e =
      let t : turns π ≡ turns π + 0 = omega arith in
      let n : d ≡ 2 * (d / 2 - 0) = omega arith in
      ap₂ (λ i m. action_of d σ i (back m π)) t n

  pub odd_choice : (π : Play) (r : ℕ) → d % 2 ≡ 1 → choice d σ (move π r) ≡ pending d σ π 0
  unfolding choice pending turns back
  odd_choice π r e =
      let t : turns π ≡ turns π + 0 = omega arith in
      let n : d ≡ suc (2 * (d / 2 - 0)) = omega arith in
      ap₂ (λ i m. action_of d σ i (back m (move π r))) t n

  -- the initial word at the first history of the right side
  pub even_initial : d % 2 ≡ 0 → word d σ origin ≡ σ.initial
  unfolding word pending turns
  even_initial e =
      encode_same A _ _ (d / 2)
      (λ k h.
      let z : 0 + k ≡ k = omega arith in
      let m : initial_length d ≡ d / 2 = omega arith in
      early_action (0 + k) _ (omega arith) ∙ ap₂ (λ l i. digit A l σ.initial i) m z)
      ∙ encode_digit A (d / 2) σ.initial some_action
      (let m : initial_length d ≡ d / 2 = omega arith in rw m at σ.initial_word)

  -- an odd delay's initial word has one action more, the one played at the start
  initial_joined : d % 2 ≡ 1 → encode A (λ k. digit A (suc (d / 2)) σ.initial k) (suc (d / 2)) ≡ σ.initial
  initial_joined e =
      encode_digit A (suc (d / 2)) σ.initial some_action
      (let m : initial_length d ≡ suc (d / 2) = omega arith in rw m at σ.initial_word)

  initial_digits : (i : ℕ) → i < suc (d / 2) → digit A (suc (d / 2)) σ.initial i < A
  initial_digits i h = digit_lt A (suc (d / 2)) σ.initial i some_action

  pub odd_initial_first : d % 2 ≡ 1 → σ.initial / A ^ (d / 2) ≡ choice d σ origin
  unfolding choice turns
  odd_initial_first e =
      let m : initial_length d ≡ suc (d / 2) = omega arith in
      ap (λ v. v / A ^ (d / 2)) (sym (initial_joined e))
      ∙ oldest A (digit A (suc (d / 2)) σ.initial) (d / 2) initial_digits
      ∙ ap (λ l. digit A l σ.initial 0) (sym m)
      ∙ sym (early_action 0 (back d origin) (omega arith))

  pub odd_initial_rest : (c q : ℕ) → d % 2 ≡ 1 → σ.initial % A ^ (d / 2) ≡ word d σ (act origin c q)
  unfolding word pending turns
  odd_initial_rest c q e =
      let m : initial_length d ≡ suc (d / 2) = omega arith in
      ap (λ v. v % A ^ (d / 2)) (sym (initial_joined e))
      ∙ younger A (digit A (suc (d / 2)) σ.initial) (d / 2) initial_digits
      ∙ encode_same A _ _ (d / 2)
      (λ k h.
      let t : 1 + k ≡ suc k = omega arith in
      ap₂ (λ l i. digit A l σ.initial i) (sym m) (sym t) ∙ sym (early_action (1 + k) _ (omega arith)))

-- the node reached and the step taken there

module _ (G : Game) (d : ℕ) (σ : Strategy G.actions d) where
  node_position : (π : Play) → node G d σ π / words G d ≡ last G π
  unfolding node words
  node_position π = digits_div (last G π) (word_lt d σ π)

  node_word : (π : Play) → node G d σ π % words G d ≡ word d σ π
  unfolding node words
  node_word π = digits_mod (last G π) (word_lt d σ π)

  pub node_lt : (π : Play) → last G π < G.positions → node G d σ π < (arena G d).nodes
  unfolding node words arena
  node_lt π h = digits_lt h (word_lt d σ π)

  pub node_right : (π : Play) → (arena G d).right (node G d σ π) ≡ on_right (odd d) G.controller (last G π)
  unfolding arena
  node_right π = ap (on_right (odd d) G.controller) (node_position π)

  pub node_safe : (π : Play) → (arena G d).safe (node G d σ π) ≡ G.safe (last G π)
  unfolding arena
  node_safe π = ap G.safe (node_position π)

  step_joined : (π : Play) → d ≤ 2 * (turns π + d / 2)
      → step (odd d) G (words G d) (node G d σ π) (σ.given π) ≡ outcomes (odd d) G (words G d) (last G π) (encode G.actions (pending d σ π) (suc (d / 2)))
  unfolding step
  step_joined π l =
      ap₂ (λ p w. outcomes (odd d) G (words G d) p (w * G.actions + σ.given π)) (node_position π) (node_word π)
      ∙ ap (outcomes (odd d) G (words G d) (last G π)) (joined d σ π l)

  joined_oldest : (π : Play) → encode G.actions (pending d σ π) (suc (d / 2)) / words G d ≡ pending d σ π 0
  unfolding words
  joined_oldest π = oldest G.actions (pending d σ π) (d / 2) (λ i h. pending_lt d σ π i)

  joined_rest : (π : Play) → encode G.actions (pending d σ π) (suc (d / 2)) % words G d ≡ rest d σ π
  unfolding words rest
  joined_rest π = younger G.actions (pending d σ π) (d / 2) (λ i h. pending_lt d σ π i)

  -- even delay: the choice is played at the history's position, then the environment moves
  pub even_step : (π : Play) → odd d ≡ false
      → (arena G d).step (node G d σ π) (σ.given π) ≡ played_to G (words G d) (rest d σ π) (G.target (last G π) (choice d σ π))
  unfolding arena outcomes
  even_step π e =
      let m : d % 2 ≡ 0 = even_delay d e in
      step_joined π (omega arith)
      ∙ ap (λ b. outcomes b G (words G d) (last G π) (encode G.actions (pending d σ π) (suc (d / 2)))) e
      ∙ ap₂ (λ h w. played_to G (words G d) w (G.target (last G π) h)) (joined_oldest π ∙ sym (even_choice d σ π m)) (joined_rest π)

  -- odd delay: the environment moves, then the oldest pending action is played
  pub odd_step : (π : Play) → odd d ≡ true → 0 < turns π
      → (arena G d).step (node G d σ π) (σ.given π) ≡ map (moved_to G (words G d) (pending d σ π 0) (rest d σ π)) (G.moves (last G π))
  unfolding arena outcomes
  odd_step π e t =
      let m : d % 2 ≡ 1 = odd_delay d e in
      step_joined π (omega arith)
      ∙ ap (λ b. outcomes b G (words G d) (last G π) (encode G.actions (pending d σ π) (suc (d / 2)))) e
      ∙ ap₂ (λ h w. map (moved_to G (words G d) h w) (G.moves (last G π))) (joined_oldest π) (joined_rest π)

  -- the first histories of the right side
  pub even_first : odd d ≡ false → node G d σ origin ≡ G.start * words G d + σ.initial
  unfolding node last_from
  even_first e = ap (λ w. G.start * words G d + w) (even_initial d σ (even_delay d e))

  pub odd_first : (c q : ℕ) → odd d ≡ true → node G d σ (act origin c q) ≡ q * words G d + σ.initial % words G d
  unfolding node last_from words
  odd_first c q e = ap (λ w. q * G.actions ^ (d / 2) + w) (sym (odd_initial_rest d σ c q (odd_delay d e)))

  pub odd_played : odd d ≡ true → σ.initial / words G d ≡ choice d σ origin
  unfolding words
  odd_played e = odd_initial_first d σ (odd_delay d e)
