-- Laws of specs/Play.antt and specs/Strategy.antt: sides alternate, and what is left of a play when moves are taken back.
-- Assumes nothing.
use Prim.Native.Nat.{ℕ, zero, suc, ◌+◌, ◌-◌, ◌*◌, ◌/◌, ◌%◌, ◌<◌}
use mathlib.Core.Path.{◌≡◌, refl}
use mathlib.Core.Bool.{true, false}
use mathlib.Core.Logic.{⊎_elim}
use mathlib.Core.List.{Memᴰ}
use native.Mathlib.Omega.{arith}
use Rattle.theory.specs.Game.{Game, Legal, to}
use Rattle.theory.specs.Play.{Play, origin, act, move, last_from, last, turns, index, back, IsPlay, begun, acted, moved}
use Rattle.theory.specs.Strategy.{Strategy, choice, Next, by_action, by_move, Consistent, here, then}
use Rattle.theory.proofs.Fold.{bool, not_both}

-- taking moves back

pub back_origin : (k : ℕ) → back k origin ≡ origin
unfolding back
back_origin zero = refl
back_origin (suc k) = refl

pub back_back : (k n : ℕ) (π : Play) → back k (back n π) ≡ back (k + n) π
unfolding back
back_back k zero π = let q : k + 0 ≡ k = omega arith in rw q
back_back k (suc n) origin = rw (back_origin k, back_origin (k + suc n))
back_back k (suc n) (act π c q) = let e : k + suc n ≡ suc (k + n) = omega arith in rw e (back_back k n π)
back_back k (suc n) (move π r) = let e : k + suc n ≡ suc (k + n) = omega arith in rw e (back_back k n π)

pub index_back : (k : ℕ) (π : Play) → index (back k π) ≡ index π - k
unfolding back index
index_back zero π = omega arith
index_back (suc k) origin = omega arith
index_back (suc k) (act π c q) = omega (arith, index_back k π)
index_back (suc k) (move π r) = omega (arith, index_back k π)

-- all of them
pub back_all : (π : Play) → back (index π) π ≡ origin
unfolding back index
back_all origin = refl
back_all (act π c q) = back_all π
back_all (move π r) = back_all π

module _ {G : Game} where
  pub back_play : {π : Play} (k : ℕ) → IsPlay G π → IsPlay G (back k π)
  unfolding back
  back_play zero p = p
  back_play (suc k) begun = begun
  back_play (suc k) (acted c q p e) = back_play k p
  back_play (suc k) (moved r p m) = back_play k p

-- consistent plays

module _ {G : Game} {A d : ℕ} {σ : Strategy A d} where
  pub next_play : {π π' : Play} → IsPlay G π → Next G d σ π π' → IsPlay G π'
  next_play p (by_action q e) = acted _ q p e
  next_play p (by_move r m) = moved r p m

  pub consistent_play : {π : Play} → Consistent G d σ π → IsPlay G π
  consistent_play here = begun
  consistent_play (then c n) = next_play (consistent_play c) n

  pub back_consistent : {π : Play} (k : ℕ) → Consistent G d σ π → Consistent G d σ (back k π)
  unfolding back
  back_consistent zero c = c
  back_consistent (suc k) here = here
  back_consistent (suc k) (then {π = π} c (by_action q e)) = back_consistent {π = π} k c
  back_consistent (suc k) (then {π = π} c (by_move r m)) = back_consistent {π = π} k c

  -- every move of a consistent play is a Next
  pub back_next : {π : Play} (k : ℕ) → Consistent G d σ π → k < index π → Next G d σ (back (suc k) π) (back k π)
  unfolding back index
  back_next k here h = absurd (omega arith)
  back_next zero (then c (by_action q e)) h = by_action q e
  back_next zero (then c (by_move r m)) h = by_move r m
  back_next (suc k) (then c (by_action q e)) h = back_next k c (omega arith)
  back_next (suc k) (then c (by_move r m)) h = back_next k c (omega arith)

-- sides

-- the last position, and the index that its side has
pub record Side (G : Game) (π : Play) : Type 0 where
  pub position : last G π < G.positions
  pub own : G.controller (last G π) ≡ true → index π ≡ 2 * turns π
  pub yard : G.controller (last G π) ≡ false → suc (index π) ≡ 2 * turns π

module _ {G : Game} (legal : Legal G) where
  pub play_side : {π : Play} → IsPlay G π → Side G π
  unfolding last_from index turns
  play_side begun =
      record {
        position = legal.start_position;
        own = λ e. omega arith;
        yard = λ e. absurd (not_both legal.start_controller e);
      }
  play_side (acted c q p e) =
      let t = legal.targets _ c q e in
      let s = (play_side p).own t.from_controller in
      record { position = t.position; own = λ o. absurd (not_both o t.environment); yard = λ y. omega arith }
  play_side (moved r p m) =
      let t = legal.moves _ r m in
      let s = (play_side p).yard t.from_environment in
      record { position = t.position; own = λ o. omega arith; yard = λ y. absurd (not_both t.controller y) }

  module _ {π : Play} (p : IsPlay G π) where
    pub play_position : last G π < G.positions
    play_position = (play_side p).position

    pub controller_index : G.controller (last G π) ≡ true → index π ≡ 2 * turns π
    controller_index = (play_side p).own

    pub environment_index : G.controller (last G π) ≡ false → suc (index π) ≡ 2 * turns π
    environment_index = (play_side p).yard

    pub play_turns : turns π ≡ (index π + 1) / 2
    play_turns =
        ⊎_elim
        (λ (e : G.controller (last G π) ≡ true). omega (arith, controller_index e))
        (λ (e : G.controller (last G π) ≡ false). omega (arith, environment_index e))
        (bool (G.controller (last G π)))

    -- "even indices are own, odd ones yard"
    pub even_controller : index π % 2 ≡ 0 → G.controller (last G π) ≡ true
    even_controller h = ⊎_elim (λ e. e) (λ e. absurd (omega (arith, environment_index e))) (bool (G.controller (last G π)))

    pub odd_environment : index π % 2 ≡ 1 → G.controller (last G π) ≡ false
    odd_environment h = ⊎_elim (λ e. absurd (omega (arith, controller_index e))) (λ e. e) (bool (G.controller (last G π)))

-- one move of a consistent play changes the side

pub record Acts (G : Game) {A : ℕ} (d : ℕ) (σ : Strategy A d) (π π' : Play) : Type 0 where
  pub play : π' ≡ act π (choice d σ π) (last G π')
  pub target : G.target (last G π) (choice d σ π) ≡ to (last G π')
  pub yard : G.controller (last G π') ≡ false

pub record Moves (G : Game) (π π' : Play) : Type 0 where
  pub play : π' ≡ move π (last G π')
  pub member : Memᴰ (last G π') (G.moves (last G π))
  pub own : G.controller (last G π') ≡ true

module _ {G : Game} (legal : Legal G) {A d : ℕ} {σ : Strategy A d} where
  pub next_controller : {π π' : Play} → Next G d σ π π' → G.controller (last G π) ≡ true → Acts G d σ π π'
  unfolding last_from
  next_controller (by_action q e) o = record { play = refl; target = e; yard = (legal.targets _ _ q e).environment }
  next_controller (by_move r m) o = absurd (not_both o (legal.moves _ r m).from_environment)

  pub next_environment : {π π' : Play} → Next G d σ π π' → G.controller (last G π) ≡ false → Moves G π π'
  unfolding last_from
  next_environment (by_action q e) y = absurd (not_both (legal.targets _ _ q e).from_controller y)
  next_environment (by_move r m) y = record { play = refl; member = m; own = (legal.moves _ r m).controller }
