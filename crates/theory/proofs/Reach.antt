-- The number reached is that of the positions on plays (`reached_is`, `reached_count`), and of any set of such positions that has the
-- start and is closed under moves (`closed_count`). Assumes nothing.
use Prim.Native.Nat.{ℕ, zero, suc, ◌+◌, ◌-◌, ◌≤◌, ◌<◌}
use mathlib.Core.Path.{◌≡◌, refl, sym, ◌∙◌, ap}
use mathlib.Core.Bool.{Bool, true, false}
use mathlib.Core.Logic.{◌⊎◌, inl, inr, ⊎_elim, ◌↔◌}
use mathlib.Core.List.{Memᴰ}
use native.Mathlib.Omega.{arith}
use lib.Dec.{eqb, ltb}
use lib.ListN.{get_or}
use borrow.Author.Tests.{eqb-true, eq-eqb, ltb-true, lt-ltb}
use Rattle.theory.specs.Fold.{both, tabulate, count}
use Rattle.theory.specs.Game.{Target, absent, to, Game, Legal}
use Rattle.theory.specs.Play.{Play, origin, act, move, last_from, last, IsPlay, begun, acted, moved}
use Rattle.theory.specs.Reach.{OnPlay, is_target, leads, mark_in, marks_after, reached}
use Rattle.theory.proofs.Fold.{not_both, both_true, both_left, both_right, either_left, either_right, either_cases, below?, any_holds, any_some, any_of_holds, any_of_some}
use Rattle.theory.proofs.Fold.{get_d_tabulate, get_d_tabulate_out, tabulate_same, count_le, count_mono, count_less}

target_is : (q : ℕ) (t : Target) → is_target q t ≡ true → t ≡ to q
unfolding is_target
target_is q absent e = absurd (not_both e refl)
target_is q (to r) e = ap to (sym (eqb-true q r e))

is_target_lem : (q : ℕ) (t : Target) → t ≡ to q → is_target q t ≡ true
unfolding is_target
is_target_lem q t e = rw e (eq-eqb q q refl)

module _ (G : Game) where
  pub leads_on : (p q : ℕ) → leads G p q ≡ true → OnPlay G p → OnPlay G q
  unfolding leads last_from
  leads_on p q e o =
      ⊎_elim
      (λ a.
      let s = any_some (λ c. is_target q (G.target p c)) G.actions a in
      let t : G.target (last G o.play) s.0 ≡ to q = ap (λ p. G.target p s.0) o.ends ∙ target_is q _ s.2 in
      record { play = act o.play s.0 q; is_play = acted s.0 q o.is_play t; ends = refl })
      (λ b.
      let s = any_of_some (eqb q) (G.moves p) b in
      let r : q ≡ s.0 = eqb-true q s.0 s.2 in
      let m : Memᴰ q (G.moves (last G o.play)) = rw (o.ends, r) s.1 in
      record { play = move o.play q; is_play = moved q o.is_play m; ends = refl })
      (either_cases _ _ e)

  module _ (legal : Legal G) where
    leads_target : (p c q : ℕ) → G.target p c ≡ to q → leads G p q ≡ true
    unfolding leads
    leads_target p c q e =
        either_left _ _ (any_holds (λ c. is_target q (G.target p c)) c G.actions (legal.targets p c q e).action (is_target_lem q _ e))

    leads_move : (p r : ℕ) → Memᴰ r (G.moves p) → leads G p r ≡ true
    unfolding leads
    leads_move p r m = either_right _ _ (any_of_holds (eqb r) m (eq-eqb r r refl))

    pub leads_inside : (p q : ℕ) → leads G p q ≡ true → q < G.positions
    unfolding leads
    leads_inside p q e =
        ⊎_elim
        (λ a.
        let s = any_some (λ c. is_target q (G.target p c)) G.actions a in
        (legal.targets p s.0 q (target_is q _ s.2)).position)
        (λ b.
        let s = any_of_some (eqb q) (G.moves p) b in
        let r = (legal.moves p s.0 s.1).position in
        omega (arith, eqb-true q s.0 s.2, r))
        (either_cases _ _ e)

    -- a set with the start that is closed under moves has every position on a play
    closed_on : (f : ℕ → Bool) → f G.start ≡ true → ((p q : ℕ) → f p ≡ true → leads G p q ≡ true → f q ≡ true) → (q : ℕ) → OnPlay G q
        → f q ≡ true
    unfolding last_from
    closed_on f begins closed q o = ap f (sym o.ends) ∙ along o.is_play
      where
        along : {π : Play} → IsPlay G π → f (last G π) ≡ true
        along begun = begins
        along (acted c q p e) = closed _ q (along p) (leads_target _ c q e)
        along (moved r p m) = closed _ r (along p) (leads_move _ r m)

  -- the rounds
  abbrev mark : ℕ → ℕ → Bool
  mark n q = get_or (marks_after G n) q false

  mark_inside : (n q : ℕ) → mark n q ≡ true → q < G.positions
  unfolding marks_after
  mark_inside n q e =
      ⊎_elim (λ (h : q < G.positions). h) (λ (h : G.positions ≤ q). absurd (not_both e (out n h))) (below? q G.positions)
    where
      out : (n : ℕ) → G.positions ≤ q → mark n q ≡ false
      out zero h = get_d_tabulate_out _ G.positions q false h
      out (suc n) h = get_d_tabulate_out _ G.positions q false h

  mark_zero : (q : ℕ) → q < G.positions → mark 0 q ≡ eqb G.start q
  unfolding marks_after
  mark_zero q h = get_d_tabulate (eqb G.start) G.positions q false h

  mark_suc : (n q : ℕ) → q < G.positions → mark (suc n) q ≡ mark_in G (marks_after G n) q
  unfolding marks_after
  mark_suc n q h = get_d_tabulate (mark_in G (marks_after G n)) G.positions q false h

  mark_grows : (n q : ℕ) → mark n q ≡ true → mark (suc n) q ≡ true
  unfolding mark_in
  mark_grows n q e = mark_suc n q (mark_inside n q e) ∙ either_left _ _ e

  mark_leads : (n p q : ℕ) → q < G.positions → mark n p ≡ true → leads G p q ≡ true → mark (suc n) q ≡ true
  unfolding mark_in
  mark_leads n p q h e l =
      mark_suc n q h
      ∙ either_right _ _
      (any_holds (λ p. both (get_or (marks_after G n) p false) (leads G p q)) p G.positions (mark_inside n p e) (both_true _ _ e l))

  -- what has a mark lies on a play
  marked_on : (n q : ℕ) → mark n q ≡ true → OnPlay G q
  unfolding last_from mark_in
  marked_on zero q e = record { play = origin; is_play = begun; ends = eqb-true G.start q (sym (mark_zero q (mark_inside 0 q e)) ∙ e) }
  marked_on (suc n) q e =
      ⊎_elim
      (λ a. marked_on n q a)
      (λ b.
      let s = any_some (λ p. both (get_or (marks_after G n) p false) (leads G p q)) G.positions b in
      leads_on s.0 q (both_right _ _ s.2) (marked_on n s.0 (both_left _ _ s.2)))
      (either_cases _ _ (sym (mark_suc n q (mark_inside (suc n) q e)) ∙ e))

  -- a round without a new mark is the last, and there are no more marks than positions
  marks_again : (n : ℕ) → marks_after G n ≡ tabulate (mark n) 0 G.positions
  unfolding marks_after
  marks_again zero = tabulate_same _ _ false G.positions (λ k h. sym (mark_zero k h))
  marks_again (suc n) = tabulate_same _ _ false G.positions (λ k h. sym (mark_suc n k h))

  quiet_again : (n m : ℕ) → marks_after G (suc n) ≡ marks_after G n → marks_after G (m + n) ≡ marks_after G n
  unfolding marks_after
  quiet_again n zero q = let z : 0 + n ≡ n = omega arith in ap (marks_after G) z
  quiet_again n (suc m) q =
      let z : suc m + n ≡ suc (m + n) = omega arith in
      ap (marks_after G) z ∙ next (quiet_again n m q) ∙ q
    where
      next : marks_after G (m + n) ≡ marks_after G n → marks_after G (suc (m + n)) ≡ marks_after G (suc n)
      next e = ap (λ marks. tabulate (mark_in G marks) 0 G.positions) e

  progress : G.start < G.positions → (n : ℕ)
      → ((k : ℕ) × (k ≤ n) × (marks_after G (suc k) ≡ marks_after G k)) ⊎ (n < count (mark n) G.positions)
  progress h zero =
      ⊎_elim
      (λ (same : (i : ℕ) → i < G.positions → false ≡ mark 0 i).
      absurd (not_both (mark_zero G.start h ∙ eq-eqb G.start G.start refl) (sym (same G.start h))))
      (λ l. inr (omega (arith, l)))
      (count_less (λ i. false) (mark 0) G.positions (λ i e. absurd (not_both e refl)))
  progress h (suc n) =
      ⊎_elim
      (λ s. inl (s.0, omega (arith, s.1), s.2))
      (λ l.
      ⊎_elim
      (λ (same : (i : ℕ) → i < G.positions → mark n i ≡ mark (suc n) i).
      inl (n, omega arith, marks_again (suc n) ∙ tabulate_same _ _ false G.positions (λ i h. sym (same i h)) ∙ sym (marks_again n)))
      (λ m. inr (omega (arith, l, m)))
      (count_less (mark n) (mark (suc n)) G.positions (mark_grows n)))
      (progress h n)

  settled : G.start < G.positions → marks_after G (suc G.positions) ≡ marks_after G G.positions
  settled h =
      ⊎_elim
      (λ s.
      let k = s.0 in
      let a : G.positions - k + k ≡ G.positions = omega (arith, s.1) in
      let b : suc G.positions - k + k ≡ suc G.positions = omega (arith, s.1) in
      ap (marks_after G) (sym b)
      ∙ quiet_again k (suc G.positions - k) s.2
      ∙ sym (quiet_again k (G.positions - k) s.2)
      ∙ ap (marks_after G) a)
      (λ l. absurd (omega (arith, l, count_le (mark G.positions) G.positions)))
      (progress h G.positions)

  start_marked : G.start < G.positions → (n : ℕ) → mark n G.start ≡ true
  start_marked h zero = mark_zero G.start h ∙ eq-eqb G.start G.start refl
  start_marked h (suc n) = mark_grows n G.start (start_marked h n)

  module _ (legal : Legal G) where
    -- after as many rounds as there are positions exactly those on plays have a mark
    pub reached_is : (q : ℕ) → (mark G.positions q ≡ true) ↔ OnPlay G q
    reached_is q = (marked_on G.positions q, closed_on legal (mark G.positions) (start_marked legal.start_position G.positions) closed q)
      where
        closed : (p q : ℕ) → mark G.positions p ≡ true → leads G p q ≡ true → mark G.positions q ≡ true
        closed p q e l =
            ap (λ marks. get_or marks q false) (sym (settled legal.start_position))
            ∙ mark_leads G.positions p q (leads_inside legal p q l) e l

    -- "the number of positions that lie on some play": any test of just those counts as many
    pub reached_count : (f : ℕ → Bool) → ((q : ℕ) → f q ≡ true → OnPlay G q) → ((q : ℕ) → OnPlay G q → f q ≡ true)
        → count f G.positions ≡ reached G
    unfolding reached
    reached_count f sound full =
        let a = count_mono f (mark G.positions) G.positions (λ q e. (reached_is q).1 (sound q e)) in
        let b = count_mono (mark G.positions) f G.positions (λ q e. full q ((reached_is q).0 e)) in
        omega (arith, a, b)

    -- so does a set of such positions with the start that is closed under moves
    pub closed_count : (f : ℕ → Bool) → ((q : ℕ) → f q ≡ true → OnPlay G q) → f G.start ≡ true
        → ((p q : ℕ) → f p ≡ true → leads G p q ≡ true → f q ≡ true) → count f G.positions ≡ reached G
    closed_count f sound begins closed = reached_count f sound (closed_on legal f begins closed)

    -- positions on plays are positions
    pub on_inside : (q : ℕ) → OnPlay G q → q < G.positions
    on_inside q o =
        ltb-true q G.positions
        (closed_on legal (λ q. ltb q G.positions) (lt-ltb _ _ legal.start_position) (λ p q e l. lt-ltb _ _ (leads_inside legal p q l)) q o)

pub reached_few : (G : Game) → reached G ≤ G.positions
unfolding reached
reached_few G = count_le _ G.positions
