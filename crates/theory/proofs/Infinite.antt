-- specs/Strategy.antt's finite reading of Definition 5 is the paper's: a strategy wins if and only if it is playable and its
-- infinite outcomes are safe, and against every rule of the environment it has one. Assumes nothing.
use Prim.Native.Nat.{ℕ, zero, suc, ◌+◌, ◌*◌, ◌/◌, ◌≤◌, ◌<◌}
use mathlib.Core.Path.{◌≡◌, refl, sym, ◌∙◌, ap}
use mathlib.Core.Bool.{Bool, true, false}
use mathlib.Core.Logic.{◌↔◌, ⊎_elim}
use mathlib.Core.List.Memᴰ
use mathlib.Core.List.{List, [], ◌∷◌, Memᴰ}
use native.Mathlib.Omega.{arith}
use lib.ListN.{get_or}
use Rattle.theory.specs.Game.{Game, Legal, Target, absent, to}
use Rattle.theory.specs.Play.{Play, origin, act, move, last_from, last, index, back, Rule, IsRule}
use Rattle.theory.specs.Strategy.{Strategy, choice, Next, by_action, by_move, Consistent, here, then, Playable, Wins}
use Rattle.theory.specs.Infinite.{Infinite, up_to, acted_at, Outcome, Against, AllSafe}
use Rattle.theory.proofs.Fold.{not_both, below?}
use Rattle.theory.proofs.Plays.{back_all, back_next, consistent_play, play_position, Acts, Moves, next_controller, next_environment}

-- the prefixes of an outcome are consistent
module _ {G : Game} {A d : ℕ} {σ : Strategy A d} {π : Infinite} (o : Outcome G d σ π) where
  up_to_last : (i : ℕ) → last G (up_to π i) ≡ π.position (2 * i)
  unfolding up_to last_from
  up_to_last zero = sym o.play.starts
  up_to_last (suc i) = refl

  chosen_target : (i : ℕ) → G.target (last G (up_to π i)) (choice d σ (up_to π i)) ≡ to (π.position (suc (2 * i)))
  chosen_target i = rw (up_to_last i, ← (o.chosen i)) (o.play.acts i)

  acted_consistent : (i : ℕ) → Consistent G d σ (up_to π i) → Consistent G d σ (acted_at π i)
  acted_consistent i c = rw (o.chosen i) (then c (by_action _ (chosen_target i)))

  up_to_consistent : (i : ℕ) → Consistent G d σ (up_to π i)
  unfolding up_to last_from
  up_to_consistent zero = here
  up_to_consistent (suc i) = then (acted_consistent i (up_to_consistent i)) (by_move _ (o.play.moves i))

-- every outcome of a winning strategy is safe
pub wins_safe : {G : Game} {A d : ℕ} {σ : Strategy A d} → Wins G d σ → (π : Infinite) → Outcome G d σ π → AllSafe G π
unfolding last_from
wins_safe w π o n =
    let c = up_to_consistent o (n / 2) in
    ⊎_elim
    (λ (l : 2 * (n / 2) < n).
    let e : n ≡ suc (2 * (n / 2)) = omega arith in
    rw e (w.safe _ (acted_consistent o (n / 2) c)))
    (λ (g : n ≤ 2 * (n / 2)).
    let e : n ≡ 2 * (n / 2) = omega arith in
    rw (e, ← (up_to_last o (n / 2))) (w.safe _ c))
    (below? (2 * (n / 2)) n)

-- the infinite play of a chain of plays, each one move longer
limit : (G : Game) {A : ℕ} (d : ℕ) → Strategy A d → (ℕ → Play) → Infinite
limit G d σ f = record { position = λ n. last G (f n); action = λ i. choice d σ (f (2 * i)) }

module _
    {G : Game} (legal : Legal G) {A : ℕ} (d : ℕ) (σ : Strategy A d) (f : ℕ → Play) (first : f 0 ≡ origin)
    (next : (n : ℕ) → Next G d σ (f n) (f (suc n)))
  where
    double : (i : ℕ) → f (2 * suc i) ≡ f (suc (suc (2 * i)))
    double i = let e : 2 * suc i ≡ suc (suc (2 * i)) = omega arith in ap f e

    chain_controller : (i : ℕ) → G.controller (last G (f (2 * i))) ≡ true
    unfolding last_from
    chain_controller zero = rw first legal.start_controller
    chain_controller (suc i) = rw (double i) (next_environment legal (next _) (next_controller legal (next _) (chain_controller i)).yard).own

    acts : (i : ℕ) → Acts G d σ (f (2 * i)) (f (suc (2 * i)))
    acts i = next_controller legal (next _) (chain_controller i)

    moves : (i : ℕ) → Moves G (f (suc (2 * i))) (f (2 * suc i))
    moves i = rw (double i) (next_environment legal (next _) (acts i).yard)

    limit_up_to : (i : ℕ) → up_to (limit G d σ f) i ≡ f (2 * i)
    unfolding up_to limit
    limit_up_to zero = sym first
    limit_up_to (suc i) = rw (limit_up_to i, ← (acts i).play, ← (moves i).play)

    limit_acted : (i : ℕ) → acted_at (limit G d σ f) i ≡ f (suc (2 * i))
    unfolding limit
    limit_acted i = rw (limit_up_to i, ← (acts i).play)

    limit_outcome : Outcome G d σ (limit G d σ f)
    unfolding limit last_from
    limit_outcome =
        record {
          play = record { starts = ap (last G) first; acts = λ i. (acts i).target; moves = λ i. (moves i).member };
          chosen = λ i. ap (choice d σ) (sym (limit_up_to i));
        }

    limit_against : (rule : Rule) → ((n : ℕ) → G.controller (last G (f n)) ≡ false → last G (f (suc n)) ≡ rule (f n))
        → Against rule (limit G d σ f)
    unfolding limit
    limit_against rule ruled i = rw (limit_acted i, double i) (ruled (suc (2 * i)) (acts i).yard)

-- a rule: always the first move
first_move_lem : Game → Rule
first_move_lem G π = get_or (G.moves (last G π)) 0 0

first_member : (xs : List ℕ) {r : ℕ} → Memᴰ r xs → Memᴰ (get_or xs 0 0) xs
first_member [] m = absurd (Memᴰ.not-nil m)
first_member (x ∷ xs) m = Memᴰ.head refl

first_rule : (G : Game) → Legal G → IsRule G (first_move_lem G)
unfolding first_move_lem
first_rule G legal π p y =
    ⊎_elim
    (λ t. absurd (not_both (legal.targets _ _ _ t.2).from_controller y))
    (λ m. first_member _ m.1)
    (legal.live _ (play_position legal p))

-- the position of a target, if any
reached : Target → ℕ
reached absent = 0
reached (to q) = q

module _ (G : Game) {A : ℕ} (d : ℕ) (σ : Strategy A d) (rule : Rule) where
  -- one move more, by the strategy or by the rule
  after : Bool → Play → Play
  after true π = act π (choice d σ π) (reached (G.target (last G π) (choice d σ π)))
  after false π = move π (rule π)

  back_after : (b : Bool) (k : ℕ) (π : Play) → back (suc k) (after b π) ≡ back k π
  unfolding back after
  back_after true k π = refl
  back_after false k π = refl

  index_after : (b : Bool) (π : Play) → index (after b π) ≡ suc (index π)
  unfolding index after
  index_after true π = refl
  index_after false π = refl

  -- n moves more
  extend : Play → ℕ → Play
  extend ρ zero = ρ
  extend ρ (suc n) = after (G.controller (last G (extend ρ n))) (extend ρ n)

  back_suc : (ρ : Play) (k n : ℕ) → back (suc k) (extend ρ (suc n)) ≡ back k (extend ρ n)
  unfolding extend
  back_suc ρ k n = back_after _ k _

  back_extend : (ρ : Play) (n : ℕ) → back n (extend ρ n) ≡ ρ
  unfolding back extend
  back_extend ρ zero = refl
  back_extend ρ (suc n) = back_suc ρ n n ∙ back_extend ρ n

  index_extend : (ρ : Play) (n : ℕ) → index (extend ρ n) ≡ index ρ + n
  unfolding extend
  index_extend ρ zero = omega arith
  index_extend ρ (suc n) = rw index_after (omega (arith, index_extend ρ n))

  extend_environment : (ρ : Play) (n : ℕ) → G.controller (last G (extend ρ n)) ≡ false → last G (extend ρ (suc n)) ≡ rule (extend ρ n)
  unfolding last_from after extend
  extend_environment ρ n e = rw e

  module _ (playable : Playable G d σ) (obeys : IsRule G rule) where
    after_next : (b : Bool) {π : Play} → Consistent G d σ π → G.controller (last G π) ≡ b → Next G d σ π (after b π)
    unfolding after reached
    after_next true c e = let t = playable _ c e in rw t.1 (by_action t.0 t.1)
    after_next false c e = by_move _ (obeys _ (consistent_play c) e)

    extend_consistent : {ρ : Play} → Consistent G d σ ρ → (n : ℕ) → Consistent G d σ (extend ρ n)
    unfolding extend
    extend_consistent c zero = c
    extend_consistent c (suc n) = let h = extend_consistent c n in then h (after_next _ h refl)

    -- extend ρ n less as many moves as ρ has is the prefix up to index n: a chain through ρ
    chain_next : {ρ : Play} → Consistent G d σ ρ
        → (n : ℕ) → Next G d σ (back (index ρ) (extend ρ n)) (back (index ρ) (extend ρ (suc n)))
    chain_next {ρ} c n =
        rw (← (back_suc ρ (index ρ) n))
        (back_next (index ρ) (extend_consistent c (suc n)) (rw (index_extend ρ (suc n)) (omega arith)))

-- against every rule of the environment a winning strategy has an outcome, and it is safe
pub wins_infinite : (G : Game) → Legal G → {A : ℕ} (d : ℕ) (σ : Strategy A d) → Wins G d σ → (rule : Rule) → IsRule G rule
    → (π : Infinite) × Outcome G d σ π × Against rule π × AllSafe G π
unfolding back extend index
wins_infinite G legal d σ w rule obeys =
    let f : ℕ → Play = extend G d σ rule origin in
    let next : (n : ℕ) → Next G d σ (f n) (f (suc n)) = chain_next G d σ rule w.playable obeys here in
    let o : Outcome G d σ (limit G d σ f) = limit_outcome legal d σ f refl next in
    (limit G d σ f, o, limit_against legal d σ f refl next rule (extend_environment G d σ rule origin), wins_safe w _ o)

-- every consistent play of a playable strategy goes on to an outcome, which has its last position at its index
pub prefix_outcome : (G : Game) → Legal G → {A : ℕ} (d : ℕ) (σ : Strategy A d) → Playable G d σ → {ρ : Play} → Consistent G d σ ρ
    → (π : Infinite) × Outcome G d σ π × (π.position (index ρ) ≡ last G ρ)
unfolding extend limit
prefix_outcome G legal d σ playable {ρ} c =
    let rule : Rule = first_move_lem G in
    let f : ℕ → Play = λ n. back (index ρ) (extend G d σ rule ρ n) in
    let next : (n : ℕ) → Next G d σ (f n) (f (suc n)) = chain_next G d σ rule playable (first_rule G legal) c in
    (limit G d σ f, limit_outcome legal d σ f (back_all ρ) next, ap (last G) (back_extend G d σ rule ρ (index ρ)))

-- so a playable strategy whose outcomes are all safe wins
pub infinite_wins : (G : Game) → Legal G → {A : ℕ} (d : ℕ) (σ : Strategy A d) → Playable G d σ
    → ((π : Infinite) → Outcome G d σ π → AllSafe G π) → Wins G d σ
infinite_wins G legal d σ playable safe =
    record {
      playable = playable;
      safe = λ ρ c. let x = prefix_outcome G legal d σ playable c in rw x.2 at (safe x.0 x.1 (index ρ));
    }

-- the finite and the infinite reading are one
pub wins_outcomes : (G : Game) → Legal G → {A : ℕ} (d : ℕ) (σ : Strategy A d)
    → Wins G d σ ↔ (Playable G d σ × ((π : Infinite) → Outcome G d σ π → AllSafe G π))
wins_outcomes G legal d σ = ((λ w. (w.playable, wins_safe w)), (λ h. infinite_wins G legal d σ h.0 h.1))
