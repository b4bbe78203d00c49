-- A strategy that wins reaches nodes of the winning region only, and a strategy that keeps its nodes inside a winning set wins: the
-- two halves of the correctness of the rounds, for every delay. Assumes nothing.
use Prim.Native.Nat.{ℕ, ◌+◌, ◌*◌, ◌/◌, ◌%◌, ◌<◌}
use mathlib.Core.Path.{◌≡◌, refl, sym, ◌∙◌, ap}
use mathlib.Core.Bool.{Bool, true, false, not}
use mathlib.Core.Logic.{◌⊎◌, inl, inr, ⊎_elim}
use mathlib.Core.List.{Memᴰ}
use native.Mathlib.Omega.{arith}
use borrow.Author.Tests.{not-true}
use Rattle.theory.specs.Game.{Game, Target, absent, to, Legal}
use Rattle.theory.specs.Play.{Play, origin, act, move, last, last_from, turns}
use Rattle.theory.specs.Strategy.{Strategy, choice, Next, by_action, by_move, Consistent, here, then, Wins}
use Rattle.theory.specs.Rounds.{Closed, spoilt_by, fell, final_ranks, kept}
use Rattle.theory.specs.Delay.{odd, words, on_right, arena, kept_at, good_by, good_from, good_with}
use Rattle.theory.specs.Table.{node}
use Rattle.theory.proofs.Fold.{bool, not_both, both_true, both_left, both_right}
use Rattle.theory.proofs.Rounds.{unspoilt}
use Rattle.theory.proofs.Region.{kept_is, region_largest}
use Rattle.theory.proofs.Plays.{consistent_play, play_position, environment_index}
use Rattle.theory.proofs.Pending.{even_first, odd_first, odd_played, node_lt, node_right, node_safe}
use Rattle.theory.proofs.Turns.{right_even, right_odd, to_injective, Even, Odd, Stays, even_turn, even_stays, odd_turn, odd_stays}

-- a first word begins inside S: the reading of good_by for any set

abbrev pub Starts : Bool → Game → ℕ → (ℕ → Type 0) → ℕ → Type 0
Starts false G m S v = S (G.start * m + v)
Starts true G m S v = (G.safe G.start ≡ true) × ((q : ℕ) × (G.target G.start (v / m) ≡ to q) × S (q * m + v % m))

module _ (G : Game) (m : ℕ) (keeps : ℕ → Bool) (v : ℕ) where
  kept_target : (t : Target) → kept_at keeps m (v % m) t ≡ true → (q : ℕ) × (t ≡ to q) × (keeps (q * m + v % m) ≡ true)
  unfolding kept_at
  kept_target absent e = absurd (not_both e refl)
  kept_target (to q) e = (q, refl, e)

  pub good_starts : (b : Bool) → good_by b G m keeps v ≡ true → Starts b G m (λ k. keeps k ≡ true) v
  unfolding good_by
  good_starts false e = e
  good_starts true e = (both_left _ _ e, kept_target (G.target G.start (v / m)) (both_right _ _ e))

  pub starts_good : (b : Bool) → Starts b G m (λ k. keeps k ≡ true) v → good_by b G m keeps v ≡ true
  unfolding good_by kept_at
  starts_good false s = s
  starts_good true s = both_true _ _ s.0 (rw s.1.1 s.1.2)

module _ (G : Game) (legal : Legal G) (d : ℕ) (σ : Strategy G.actions d) where
  -- histories of the right side

  pub record Seen (π : Play) : Type 0 where
    pub consistent : Consistent G d σ π
    pub right : on_right (odd d) G.controller (last G π) ≡ true

  seen_controller : {π : Play} → odd d ≡ false → Seen π → G.controller (last G π) ≡ true
  seen_controller {π} e s = sym (right_even G (odd d) (last G π) e) ∙ s.right

  seen_environment : {π : Play} → odd d ≡ true → Seen π → G.controller (last G π) ≡ false
  seen_environment {π} e s = not-true _ (sym (right_odd G (odd d) (last G π) e) ∙ s.right)

  seen_late : {π : Play} → odd d ≡ true → Seen π → 0 < turns π
  seen_late e s = let i = environment_index legal (consistent_play s.consistent) (seen_environment e s) in omega arith

  controller_right : {p : ℕ} → odd d ≡ false → G.controller p ≡ true → on_right (odd d) G.controller p ≡ true
  controller_right {p} e o = right_even G (odd d) p e ∙ o

  environment_right : {p : ℕ} → odd d ≡ true → G.controller p ≡ false → on_right (odd d) G.controller p ≡ true
  environment_right {p} e y = right_odd G (odd d) p e ∙ ap not y

  pub seen_node : {π : Play} → Seen π → node G d σ π < (arena G d).nodes
  seen_node {π} s = node_lt G d σ π (play_position legal (consistent_play s.consistent))

  -- a winning strategy's nodes are a winning set

  Reached : ℕ → Type 0
  Reached k = (π : Play) × Seen π × (node G d σ π ≡ k)

  module _ (wins : Wins G d σ) where
    reached_stays : (π : Play) → Seen π → Stays G d σ Reached π
    unfolding Reached last_from
    reached_stays π s =
        ⊎_elim
        (λ (e : odd d ≡ true). odd_stays G d σ Reached π e (seen_late e s) (odd_one e))
        (λ (e : odd d ≡ false). even_stays G d σ Reached π e (even_one e))
        (bool (odd d))
      where
        even_one : odd d ≡ false → Even G d σ Reached π
        even_one e =
            let t = wins.playable π s.consistent (seen_controller e s) in
            let c = then s.consistent (by_action t.0 t.1) in
            record {
              reached = t.0;
              permitted = t.1;
              safe = wins.safe _ c;
              next =
                  λ r i. (
                    move (act π (choice d σ π) t.0) r,
                    record { consistent = then c (by_move r i); right = controller_right e (legal.moves _ r i).controller },
                    refl,
                  );
            }

        odd_one : odd d ≡ true → (r : ℕ) → Memᴰ r (G.moves (last G π)) → Odd G d σ Reached π r
        odd_one e r i =
            let c = then s.consistent (by_move r i) in
            let t = wins.playable (move π r) c (legal.moves _ r i).controller in
            record {
              safe = wins.safe _ c;
              reached = t.0;
              permitted = t.1;
              next = (
                act (move π r) (choice d σ (move π r)) t.0,
                record { consistent = then c (by_action t.0 t.1); right = environment_right e (legal.targets _ _ _ t.1).environment },
                refl,
              );
            }

    reached_closed : (k : ℕ) → Reached k → Closed (arena G d) Reached k
    unfolding Reached arena
    reached_closed k (π, s, e) =
        rw (← e)
        (record {
          safe = node_safe G d σ π ∙ wins.safe π s.consistent;
          action = σ.given π;
          action_lt = σ.given_action π;
          inside = reached_stays π s;
        })

    -- so they never fall
    pub reached_stands : {π : Play} → Seen π → fell (final_ranks (arena G d)) (node G d σ π) ≡ false
    unfolding Reached
    reached_stands {π} s = region_largest (arena G d) Reached (λ k h r x. reached_closed k x) (node G d σ π) (π, s, refl)

    pub reached_kept : {π : Play} → Seen π → kept (arena G d) (final_ranks (arena G d)) (node G d σ π) ≡ true
    reached_kept {π} s =
        kept_is (arena G d) (final_ranks (arena G d)) (node G d σ π) (node_right G d σ π ∙ s.right) (reached_stands s)

    -- and every action that the strategy gives is unspoilt there
    pub given_unspoilt : {π : Play} → Seen π
        → spoilt_by (arena G d) (fell (final_ranks (arena G d))) (node G d σ π) (σ.given π) ≡ false
    unfolding Reached
    given_unspoilt {π} s =
        unspoilt (arena G d) (fell (final_ranks (arena G d))) (node G d σ π) (σ.given π)
        (λ o i.
        let x = reached_stays π s o i in
        (x.0, x.1, region_largest (arena G d) Reached (λ k h r y. reached_closed k y) x.0 x.2))

    -- its first word is good
    begins : (b : Bool) → odd d ≡ b → Starts b G (words G d) (λ k. kept (arena G d) (final_ranks (arena G d)) k ≡ true) σ.initial
    unfolding last_from
    begins false e =
        rw (even_first G d σ e) at (reached_kept (record { consistent = here; right = controller_right e legal.start_controller }))
    begins true e =
        let t = wins.playable origin here legal.start_controller in
        let s : Seen (act origin (choice d σ origin) t.0) =
        record {
          consistent = then here (by_action t.0 t.1);
          right = environment_right e (legal.targets _ _ _ t.1).environment;
        } in
        (wins.safe origin here, (t.0, rw (odd_played G d σ e) t.1, rw (odd_first G d σ (choice d σ origin) t.0 e) at (reached_kept s)))

    pub initial_good : good_with G d (final_ranks (arena G d)) σ.initial ≡ true
    unfolding good_with good_from
    initial_good = starts_good G (words G d) (kept (arena G d) (final_ranks (arena G d))) σ.initial (odd d) (begins (odd d) refl)

  -- a strategy that keeps its nodes inside S

  pub record KeepsInside (S : ℕ → Type 0) : Type 0 where
    pub safe : (k : ℕ) → k < (arena G d).nodes → (arena G d).right k ≡ true → S k → (arena G d).safe k ≡ true
    pub inside : (π : Play) → Seen π → S (node G d σ π) → Stays G d σ S π

  module _ (S : ℕ → Type 0) (keeping : KeepsInside S) (starts : Starts (odd d) G (words G d) S σ.initial) where
    -- between two histories of the right side: safe, playable, and every next one is inside
    record Between (π : Play) : Type 0 where
      wrong : on_right (odd d) G.controller (last G π) ≡ false
      safe : G.safe (last G π) ≡ true
      permitted : G.controller (last G π) ≡ true → (q : ℕ) × (G.target (last G π) (choice d σ π) ≡ to q)
      next : {π' : Play} → Next G d σ π π' → S (node G d σ π')

    Inside : Play → Type 0
    Inside π = (Seen π × S (node G d σ π)) ⊎ Between π

    controller_wrong : {p : ℕ} → odd d ≡ true → G.controller p ≡ true → on_right (odd d) G.controller p ≡ false
    controller_wrong {p} e o = right_odd G (odd d) p e ∙ ap not o

    environment_wrong : {p : ℕ} → odd d ≡ false → G.controller p ≡ false → on_right (odd d) G.controller p ≡ false
    environment_wrong {p} e y = right_even G (odd d) p e ∙ y

    -- odd delay: the first word's first action is played at the start
    first_next : (q : ℕ) → odd d ≡ true → G.target G.start (σ.initial / words G d) ≡ to q → S (q * words G d + σ.initial % words G d)
        → {π' : Play} → Next G d σ origin π' → S (node G d σ π')
    unfolding last_from
    first_next q e t s (by_action q' e') =
        let z : q ≡ q' = to_injective (sym t ∙ ap (G.target G.start) (odd_played G d σ e) ∙ e') in
        rw (odd_first G d σ (choice d σ origin) q' e, ← z) s
    first_next q e t s (by_move r m) = absurd (not_both legal.start_controller (legal.moves _ r m).from_environment)

    begin : (b : Bool) → odd d ≡ b → Starts b G (words G d) S σ.initial → Inside origin
    unfolding Inside last_from
    begin false e s =
        inl (record { consistent = here; right = controller_right e legal.start_controller }, rw (even_first G d σ e) s)
    begin true e s =
        inr
        (record {
          wrong = controller_wrong e legal.start_controller;
          safe = s.0;
          permitted = λ o. (s.1.0, rw (← odd_played G d σ e) s.1.1);
          next = first_next s.1.0 e s.1.1 s.1.2;
        })

    -- the next move
    even_between : {π : Play} (q : ℕ) (e : G.target (last G π) (choice d σ π) ≡ to q) → odd d ≡ false → Seen π → S (node G d σ π)
        → Between (act π (choice d σ π) q)
    unfolding last_from
    even_between {π} q e f s i =
        let t = even_turn G d σ S π f (keeping.inside π s i) in
        let z : t.reached ≡ q = to_injective (sym t.permitted ∙ e) in
        let y = (legal.targets _ _ q e).environment in
        record {
          wrong = environment_wrong f y;
          safe = ap G.safe (sym z) ∙ t.safe;
          permitted = λ o. absurd (not_both o y);
          next = after z t.next y;
        }
      where
        after : {q' : ℕ} → q' ≡ q → ((r : ℕ) → Memᴰ r (G.moves q') → S (node G d σ (move (act π (choice d σ π) q') r)))
            → G.controller q ≡ false → {π' : Play} → Next G d σ (act π (choice d σ π) q) π' → S (node G d σ π')
        after z f y (by_action p e) = absurd (not_both (legal.targets _ _ p e).from_controller y)
        after z f y (by_move r m) = (rw z at f) r m

    odd_between : {π : Play} (r : ℕ) → Memᴰ r (G.moves (last G π)) → odd d ≡ true → Seen π → S (node G d σ π) → Between (move π r)
    unfolding last_from
    odd_between {π} r m f s i =
        let t = odd_turn G d σ S π f (seen_late f s) (keeping.inside π s i) r m in
        let o = (legal.moves _ r m).controller in
        record {
          wrong = controller_wrong f o;
          safe = t.safe;
          permitted = λ x. (t.reached, t.permitted);
          next = after t.reached t.permitted t.next o;
        }
      where
        after : (q : ℕ) → G.target r (choice d σ (move π r)) ≡ to q → S (node G d σ (act (move π r) (choice d σ (move π r)) q))
            → G.controller r ≡ true → {π' : Play} → Next G d σ (move π r) π' → S (node G d σ π')
        after q t s o (by_action p e) = let z : q ≡ p = to_injective (sym t ∙ e) in rw z at s
        after q t s o (by_move x m) = absurd (not_both o (legal.moves _ x m).from_environment)

    from_right : {π π' : Play} → Next G d σ π π' → Seen π → S (node G d σ π) → Between π'
    from_right (by_action q e) s x =
        ⊎_elim
        (λ (f : odd d ≡ true). absurd (not_both (legal.targets _ _ q e).from_controller (seen_environment f s)))
        (λ (f : odd d ≡ false). even_between q e f s x)
        (bool (odd d))
    from_right (by_move r m) s x =
        ⊎_elim
        (λ (f : odd d ≡ true). odd_between r m f s x)
        (λ (f : odd d ≡ false). absurd (not_both (seen_controller f s) (legal.moves _ r m).from_environment))
        (bool (odd d))

    -- a move changes the side
    next_right : {π π' : Play} → Next G d σ π π' → on_right (odd d) G.controller (last G π) ≡ false → on_right (odd d) G.controller (last G π') ≡ true
    unfolding last_from
    next_right (by_action q e) w =
        let t = legal.targets _ _ q e in
        ⊎_elim
        (λ (f : odd d ≡ true). environment_right f t.environment)
        (λ (f : odd d ≡ false). absurd (not_both (controller_right f t.from_controller) w))
        (bool (odd d))
    next_right (by_move r m) w =
        let t = legal.moves _ r m in
        ⊎_elim
        (λ (f : odd d ≡ true). absurd (not_both (environment_right f t.from_environment) w))
        (λ (f : odd d ≡ false). controller_right f t.controller)
        (bool (odd d))

    stays_inside : {π : Play} → Consistent G d σ π → Inside π
    unfolding Inside
    stays_inside here = begin (odd d) refl starts
    stays_inside (then c n) =
        ⊎_elim
        (λ x. inr (from_right n x.0 x.1))
        (λ b. inl (record { consistent = then c n; right = next_right n b.wrong }, b.next n))
        (stays_inside c)

    -- every history of the right side is inside S
    pub keeping_node : {π : Play} → Seen π → S (node G d σ π)
    unfolding Inside
    keeping_node s =
        ⊎_elim (λ x. x.1) (λ b. absurd (not_both s.right b.wrong)) (stays_inside s.consistent)

    inside_safe : (π : Play) → Inside π → G.safe (last G π) ≡ true
    unfolding Inside
    inside_safe π i =
        ⊎_elim
        (λ x.
        sym (node_safe G d σ π)
        ∙ keeping.safe (node G d σ π) (seen_node x.0) (node_right G d σ π ∙ x.0.right) x.1)
        (λ b. b.safe)
        i

    inside_permitted : (π : Play) → Inside π → G.controller (last G π) ≡ true → (q : ℕ) × (G.target (last G π) (choice d σ π) ≡ to q)
    unfolding Inside
    inside_permitted π i o =
        ⊎_elim
        (λ x.
        ⊎_elim
        (λ (f : odd d ≡ true). absurd (not_both o (seen_environment f x.0)))
        (λ (f : odd d ≡ false).
        let t = even_turn G d σ S π f (keeping.inside π x.0 x.1) in
        (t.reached, t.permitted))
        (bool (odd d)))
        (λ b. b.permitted o)
        i

    -- so it wins
    pub keeping_wins : Wins G d σ
    keeping_wins =
        record {
          playable = λ π c o. inside_permitted π (stays_inside c) o;
          safe = λ π c. inside_safe π (stays_inside c);
        }
