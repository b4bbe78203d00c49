-- One whole turn of a strategy, seen from a history of the right side (own for even delays, the environment's for odd ones): each
-- outcome of the step at its node is the node of the next history, and what a step without a bad outcome says of the positions
-- passed. Assumes nothing.
use Prim.Native.Nat.{ℕ, ◌+◌, ◌*◌, ◌<◌}
use mathlib.Core.Path.{◌≡◌, refl, sym, ◌∙◌, ap}
use mathlib.Core.Bool.{Bool, true, false, not}
use mathlib.Core.Logic.{◌⊎◌, inl, inr, ⊎_elim}
use mathlib.Core.List.Memᴰ
use mathlib.Core.List.{map, Memᴰ}
use native.Mathlib.Omega.{arith}
use Rattle.theory.specs.Game.{Game, Target, absent, to}
use Rattle.theory.specs.Play.{Play, act, move, last, last_from, turns}
use Rattle.theory.specs.Strategy.{Strategy, choice}
use Rattle.theory.specs.Delay.{odd, words, on_right, with_word, moved_to, played_to, arena}
use Rattle.theory.specs.Table.{pending, node}
use Rattle.theory.proofs.Fold.{bool}
use Rattle.theory.proofs.Pending.{odd_delay, even_advance, odd_advance, rest, rest_is, odd_choice, even_step, odd_step}

-- the side of a history, by the delay's parity

pub right_even : (G : Game) (b : Bool) (p : ℕ) → b ≡ false → on_right b G.controller p ≡ G.controller p
unfolding on_right
right_even G b p e = rw e

pub right_odd : (G : Game) (b : Bool) (p : ℕ) → b ≡ true → on_right b G.controller p ≡ not (G.controller p)
unfolding on_right
right_odd G b p e = rw e

-- two targets of one kind

pub to_injective : {q r : ℕ} → to q ≡ to r → q ≡ r
to_injective e = cc

pub absent_not_to : {q : ℕ} → absent ≡ to q → ⊥
absent_not_to e = let z : ◌≡◌ {A = ℕ} 0 1 = cc in omega arith

-- a target is absent or leads somewhere
pub target_cases : (t : Target) → (t ≡ absent) ⊎ ((q : ℕ) × (t ≡ to q))
target_cases absent = inl refl
target_cases (to q) = inr (q, refl)

-- the outcomes of the two kinds of step

module _ (G : Game) (m w : ℕ) where
  played_safe : (q : ℕ) → G.safe q ≡ true → played_to G m w (to q) ≡ map (λ r. to (r * m + w)) (G.moves q)
  unfolding played_to
  played_safe q s = rw s

  -- even delay: an outcome that is a node is one of a safe target's moves
  pub played_node : (q : ℕ) → G.safe q ≡ true → (o : Target) → Memᴰ o (played_to G m w (to q))
      → (r : ℕ) × Memᴰ r (G.moves q) × (o ≡ to (r * m + w))
  played_node q s o i =
      let x = Memᴰ.of_map (λ r. to (r * m + w)) (G.moves q) (rw (played_safe q s) at i) in
      (x.0, x.1, sym x.2)

  pub played_move : (q r : ℕ) → G.safe q ≡ true → Memᴰ r (G.moves q) → Memᴰ (to (r * m + w)) (played_to G m w (to q))
  played_move q r s i = rw (played_safe q s) (Memᴰ.map (λ r. to (r * m + w)) i)

  pub played_absent : Memᴰ absent (played_to G m w absent)
  unfolding played_to
  played_absent = Memᴰ.head refl

  pub played_unsafe : (q : ℕ) → G.safe q ≡ false → Memᴰ absent (played_to G m w (to q))
  unfolding played_to
  played_unsafe q s = rw s (Memᴰ.head refl)

  -- where the action is forbidden or passes an unsafe position no outcome is a node
  pub played_forbidden : {k : ℕ} → Memᴰ (to k) (played_to G m w absent) → ⊥
  unfolding played_to
  played_forbidden i = absent_not_to (sym (Memᴰ.eq_of_singleton i))

  pub played_passed : {k : ℕ} (q : ℕ) → G.safe q ≡ false → Memᴰ (to k) (played_to G m w (to q)) → ⊥
  unfolding played_to
  played_passed q s i = absent_not_to (sym (Memᴰ.eq_of_singleton (rw s at i)))

  -- odd delay: an outcome is a node exactly if the position passed is safe and permits h
  pub moved_node : (h r q : ℕ) → G.safe r ≡ true → G.target r h ≡ to q → moved_to G m h w r ≡ to (q * m + w)
  unfolding moved_to with_word
  moved_node h r q s e = rw (s, e)

  pub moved_passed : (h r k : ℕ) → moved_to G m h w r ≡ to k
      → (q : ℕ) × (G.safe r ≡ true) × (G.target r h ≡ to q) × (k ≡ q * m + w)
  unfolding moved_to with_word
  moved_passed h r k e =
      ⊎_elim
      (λ (s : G.safe r ≡ true).
      ⊎_elim
      (λ (t : G.target r h ≡ absent). absurd (absent_not_to (rw (s, t) at e)))
      (λ t. (t.0, s, t.1, to_injective (sym (rw (s, t.1) at e))))
      (target_cases (G.target r h)))
      (λ (s : G.safe r ≡ false). absurd (absent_not_to (rw s at e)))
      (bool (G.safe r))

-- what a turn says where no outcome is bad: nodes all of whose numbers are in a set S

pub record Even (G : Game) {A : ℕ} (d : ℕ) (σ : Strategy A d) (S : ℕ → Type 0) (π : Play) : Type 0 where
  pub reached : ℕ
  pub permitted : G.target (last G π) (choice d σ π) ≡ to reached
  pub safe : G.safe reached ≡ true
  pub next : (r : ℕ) → Memᴰ r (G.moves reached) → S (node G d σ (move (act π (choice d σ π) reached) r))

pub record Odd (G : Game) {A : ℕ} (d : ℕ) (σ : Strategy A d) (S : ℕ → Type 0) (π : Play) (r : ℕ) : Type 0 where
  pub safe : G.safe r ≡ true
  pub reached : ℕ
  pub permitted : G.target r (choice d σ (move π r)) ≡ to reached
  pub next : S (node G d σ (act (move π r) (choice d σ (move π r)) reached))

-- every outcome of the step is a node in S
abbrev pub Stays : (G : Game) (d : ℕ) → Strategy G.actions d → (ℕ → Type 0) → Play → Type 0
Stays G d σ S π = (o : Target) → Memᴰ o ((arena G d).step (node G d σ π) (σ.given π)) → (k : ℕ) × (o ≡ to k) × S k

module _ (G : Game) (d : ℕ) (σ : Strategy G.actions d) where
  even_node : (π : Play) (c q r : ℕ) → node G d σ (move (act π c q) r) ≡ r * words G d + rest d σ π
  unfolding node last_from
  even_node π c q r = ap (λ w. r * words G d + w) (rest_is d σ (even_advance π c q r))

  odd_node : (π : Play) (r c q : ℕ) → node G d σ (act (move π r) c q) ≡ q * words G d + rest d σ π
  unfolding node last_from
  odd_node π r c q = ap (λ w. q * words G d + w) (rest_is d σ (odd_advance π r c q))

  module _ (S : ℕ → Type 0) (π : Play) where
    pub even_turn : odd d ≡ false → Stays G d σ S π → Even G d σ S π
    even_turn e stays = permitted (target_cases (G.target (last G π) (choice d σ π)))
      where
        at : (t : Target) → G.target (last G π) (choice d σ π) ≡ t → (o : Target) → Memᴰ o (played_to G (words G d) (rest d σ π) t)
            → (k : ℕ) × (o ≡ to k) × S k
        at t p o i = stays o (rw (even_step G d σ π e, p) i)

        safely : (q : ℕ) → G.target (last G π) (choice d σ π) ≡ to q → G.safe q ≡ true → Even G d σ S π
        safely q p s =
            record {
              reached = q;
              permitted = p;
              safe = s;
              next =
                  λ r i.
                  let x = at (to q) p (to (r * words G d + rest d σ π)) (played_move G (words G d) (rest d σ π) q r s i) in
                  rw (even_node π (choice d σ π) q r, to_injective x.1) x.2;
            }

        permitted : (G.target (last G π) (choice d σ π) ≡ absent) ⊎ ((q : ℕ) × (G.target (last G π) (choice d σ π) ≡ to q)) → Even G d σ S π
        permitted (inl p) = let x = at absent p absent (played_absent G (words G d) (rest d σ π)) in absurd (absent_not_to x.1)
        permitted (inr t) =
            ⊎_elim
            (λ (s : G.safe t.0 ≡ true). safely t.0 t.1 s)
            (λ (s : G.safe t.0 ≡ false).
            let x = at (to t.0) t.1 absent (played_unsafe G (words G d) (rest d σ π) t.0 s) in
            absurd (absent_not_to x.1))
            (bool (G.safe t.0))

    pub even_stays : odd d ≡ false → Even G d σ S π → Stays G d σ S π
    even_stays e t o i =
        let x = played_node G (words G d) (rest d σ π) t.reached t.safe o (rw (even_step G d σ π e, t.permitted) at i) in
        (x.0 * words G d + rest d σ π, x.2, rw (even_node π (choice d σ π) t.reached x.0) at (t.next x.0 x.1))

    pub odd_turn : odd d ≡ true → 0 < turns π → Stays G d σ S π → (r : ℕ) → Memᴰ r (G.moves (last G π)) → Odd G d σ S π r
    odd_turn e t stays r i =
        let c : choice d σ (move π r) ≡ pending d σ π 0 = odd_choice d σ π r (odd_delay d e) in
        let x =
        stays (moved_to G (words G d) (pending d σ π 0) (rest d σ π) r)
        (rw (odd_step G d σ π e t) (Memᴰ.map (moved_to G (words G d) (pending d σ π 0) (rest d σ π)) i)) in
        let y = moved_passed G (words G d) (rest d σ π) (pending d σ π 0) r x.0 x.1 in
        record {
          safe = y.1;
          reached = y.0;
          permitted = rw c y.2;
          next = rw (odd_node π r (choice d σ (move π r)) y.0, ← y.3) x.2;
        }

    pub odd_stays : odd d ≡ true → 0 < turns π → ((r : ℕ) → Memᴰ r (G.moves (last G π)) → Odd G d σ S π r) → Stays G d σ S π
    odd_stays e t f o i =
        let x = Memᴰ.of_map (moved_to G (words G d) (pending d σ π 0) (rest d σ π)) (G.moves (last G π)) (rw (odd_step G d σ π e t) at i) in
        let y = f x.0 x.1 in
        let c : choice d σ (move π x.0) ≡ pending d σ π 0 = odd_choice d σ π x.0 (odd_delay d e) in (
          y.reached * words G d + rest d σ π,
          sym x.2 ∙ moved_node G (words G d) (rest d σ π) (pending d σ π 0) x.0 y.reached y.safe (rw c at y.permitted),
          rw (odd_node π x.0 (choice d σ (move π x.0)) y.reached) at y.next,
        )
