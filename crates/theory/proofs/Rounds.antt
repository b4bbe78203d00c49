-- The rounds over an arena (specs/Rounds.antt): ranks stay, a quiet round is final, nodes + 1 rounds suffice, and no winning set
-- ever falls. Assumes nothing.
use Prim.Native.Nat.{ℕ, zero, suc, ◌+◌, ◌≤◌, ◌<◌}
use mathlib.Core.Path.{◌≡◌, refl, sym, ◌∙◌, ap}
use mathlib.Core.Bool.{Bool, true, false, not}
use mathlib.Core.Logic.{◌↔◌, ◌⊎◌, inl, inr, ⊎_elim}
use mathlib.Core.List.{List, Memᴰ}
use native.Mathlib.Omega.{arith}
use lib.ListN.{length, get_or}
use lib.Seq.{ext_get_or}
use borrow.Author.Tests.{eq-eqb, ne_eqb, not-true}
use Rattle.theory.specs.Fold.{both, tabulate, count}
use Rattle.theory.specs.Game.{Target, absent, to}
use Rattle.theory.specs.Rounds.{Arena, bad, spoilt_by, fell, node_falls, rank_in, ranks_after, final_ranks}
use Rattle.theory.proofs.Fold.{bool, not_both, both_true, both_left, both_right, below?, any_of_none, any_of_fails, length_tabulate, get_d_tabulate, get_d_tabulate_out, tabulate_same, any_of_some, any_of_holds}
use Rattle.theory.proofs.Fold.{count_le, count_less}

-- an action is unspoilt exactly if every outcome is a node that has not fallen

pub unspoilt_outcome : (E : Arena) (fallen : ℕ → Bool) (k c : ℕ) → spoilt_by E fallen k c ≡ false → {o : Target}
    → Memᴰ o (E.step k c) → (k' : ℕ) × (o ≡ to k') × (fallen k' ≡ false)
unfolding spoilt_by bad
unspoilt_outcome E fallen k c e {o = absent} m = absurd (not_both refl (any_of_none (bad fallen) m e))
unspoilt_outcome E fallen k c e {o = to k'} m = (k', refl, any_of_none (bad fallen) m e)

pub unspoilt : (E : Arena) (fallen : ℕ → Bool) (k c : ℕ)
    → ((o : Target) → Memᴰ o (E.step k c) → (k' : ℕ) × (o ≡ to k') × (fallen k' ≡ false))
    → spoilt_by E fallen k c ≡ false
unfolding spoilt_by bad
unspoilt E fallen k c f =
    any_of_fails (bad fallen) (E.step k c) (λ o m. let r = f o m in ap (bad fallen) r.1 ∙ r.2)

-- what is spoilt stays spoilt when more has fallen
pub spoilt_more : (E : Arena) (f g : ℕ → Bool) (k c : ℕ) → ((j : ℕ) → f j ≡ true → g j ≡ true) → spoilt_by E f k c ≡ true → spoilt_by E g k c ≡ true
unfolding spoilt_by bad
spoilt_more E f g k c more e = let s = any_of_some (bad f) (E.step k c) e in any_of_holds (bad g) s.1 (worse s.0 s.2)
  where
    worse : (o : Target) → bad f o ≡ true → bad g o ≡ true
    worse absent h = refl
    worse (to j) h = more j h

-- what has fallen, by ranks

pub fell_true : (ranks : List ℕ) (k : ℕ) → 0 < get_or ranks k 0 → fell ranks k ≡ true
unfolding fell
fell_true ranks k h = rw (ne_eqb (get_or ranks k 0) 0 (λ e. omega arith))

pub fell_false : (ranks : List ℕ) (k : ℕ) → get_or ranks k 0 ≡ 0 → fell ranks k ≡ false
unfolding fell
fell_false ranks k e = rw (eq-eqb (get_or ranks k 0) 0 e)

pub fell_rank : (ranks : List ℕ) (k : ℕ) → fell ranks k ≡ true → 0 < get_or ranks k 0
fell_rank ranks k e =
    ⊎_elim
    (λ (h : get_or ranks k 0 < 1). absurd (not_both e (fell_false ranks k (omega arith))))
    (λ (h : 1 ≤ get_or ranks k 0). h)
    (below? (get_or ranks k 0) 1)

pub stood_rank : (ranks : List ℕ) (k : ℕ) → fell ranks k ≡ false → get_or ranks k 0 ≡ 0
stood_rank ranks k e =
    ⊎_elim
    (λ (h : get_or ranks k 0 < 1). omega arith)
    (λ (h : 1 ≤ get_or ranks k 0). absurd (not_both (fell_true ranks k h) e))
    (below? (get_or ranks k 0) 1)

-- a round's rank of a node
module _ (E : Arena) (n : ℕ) (ranks : List ℕ) (k : ℕ) where
  pub in_fallen : fell ranks k ≡ true → rank_in E n ranks k ≡ get_or ranks k 0
  unfolding rank_in
  in_fallen e = rw e

  pub in_fell : fell ranks k ≡ false → E.right k ≡ true → node_falls E n ranks k ≡ true → rank_in E n ranks k ≡ suc n
  unfolding rank_in
  in_fell e r f = rw (e, both_true _ _ r f)

  pub in_stands : fell ranks k ≡ false → both (E.right k) (node_falls E n ranks k) ≡ false → rank_in E n ranks k ≡ 0
  unfolding rank_in
  in_stands e f = rw (e, f)

  -- a rank of 0 after the round: the node has not fallen, now or before
  pub in_zero : rank_in E n ranks k ≡ 0 → (fell ranks k ≡ false) × (both (E.right k) (node_falls E n ranks k) ≡ false)
  in_zero z =
      ⊎_elim
      (λ (e : fell ranks k ≡ true). let h = fell_rank ranks k e in let q = in_fallen e in absurd (omega arith))
      (λ (e : fell ranks k ≡ false). (
        e,
        ⊎_elim
            (λ (f : both (E.right k) (node_falls E n ranks k) ≡ true).
            let q = in_fell e (both_left _ _ f) (both_right _ _ f) in
            absurd (omega arith))
            (λ f. f)
            (bool (both (E.right k) (node_falls E n ranks k))),
      ))
      (bool (fell ranks k))

module _ (E : Arena) where
  abbrev pub rank : ℕ → ℕ → ℕ
  rank n k = get_or (ranks_after E n) k 0

  pub after_suc : (n : ℕ) → ranks_after E (suc n) ≡ tabulate (rank_in E n (ranks_after E n)) 0 E.nodes
  unfolding ranks_after
  after_suc n = refl

  after_zero : ranks_after E 0 ≡ tabulate (λ k. 0) 0 E.nodes
  unfolding ranks_after
  after_zero = refl

  pub length_after : (n : ℕ) → length (ranks_after E n) ≡ E.nodes
  unfolding ranks_after
  length_after zero = length_tabulate (λ k. 0) 0 E.nodes
  length_after (suc n) = length_tabulate (rank_in E n (ranks_after E n)) 0 E.nodes

  pub rank_zero : (k : ℕ) → rank 0 k ≡ 0
  rank_zero k =
      rw after_zero
      (⊎_elim
      (λ (h : k < E.nodes). get_d_tabulate (λ k. 0) E.nodes k 0 h)
      (λ (h : E.nodes ≤ k). get_d_tabulate_out (λ k. 0) E.nodes k 0 h)
      (below? k E.nodes))

  pub rank_suc : (n k : ℕ) → k < E.nodes → rank (suc n) k ≡ rank_in E n (ranks_after E n) k
  rank_suc n k h = rw (after_suc n) (get_d_tabulate (rank_in E n (ranks_after E n)) E.nodes k 0 h)

  pub rank_out : (n k : ℕ) → E.nodes ≤ k → rank n k ≡ 0
  rank_out zero k h = rank_zero k
  rank_out (suc n) k h = rw (after_suc n) (get_d_tabulate_out (rank_in E n (ranks_after E n)) E.nodes k 0 h)

  -- what fell is a node
  pub fell_node : (n k : ℕ) → fell (ranks_after E n) k ≡ true → k < E.nodes
  fell_node n k e =
      ⊎_elim
      (λ (h : k < E.nodes). h)
      (λ (h : E.nodes ≤ k). absurd (not_both e (fell_false (ranks_after E n) k (rank_out n k h))))
      (below? k E.nodes)

  -- ranks only grow: a node that fell keeps its rank
  pub stays : (n k : ℕ) → fell (ranks_after E n) k ≡ true → rank (suc n) k ≡ rank n k
  stays n k e = rank_suc n k (fell_node n k e) ∙ in_fallen E n (ranks_after E n) k e

  pub stays_fallen : (n k : ℕ) → fell (ranks_after E n) k ≡ true → fell (ranks_after E (suc n)) k ≡ true
  stays_fallen n k e =
      let s = stays n k e in
      let h = fell_rank (ranks_after E n) k e in
      fell_true (ranks_after E (suc n)) k (omega arith)

  pub stays_long : (n m k : ℕ) → fell (ranks_after E n) k ≡ true → rank (m + n) k ≡ rank n k
  stays_long n zero k e = let q : 0 + n ≡ n = omega arith in ap (λ x. rank x k) q
  stays_long n (suc m) k e =
      let r = stays_long n m k e in
      let h = fell_rank (ranks_after E n) k e in
      let q : suc m + n ≡ suc (m + n) = omega arith in
      ap (λ x. rank x k) q ∙ stays (m + n) k (fell_true (ranks_after E (m + n)) k (omega arith)) ∙ r

  pub stood_before : (n k : ℕ) → fell (ranks_after E (suc n)) k ≡ false → fell (ranks_after E n) k ≡ false
  stood_before n k e =
      ⊎_elim
      (λ (t : fell (ranks_after E n) k ≡ true). absurd (not_both (stays_fallen n k t) e))
      (λ f. f)
      (bool (fell (ranks_after E n) k))

  -- a node of the right side that stood a round did not meet what makes nodes fall in it
  pub stood_falls : (n k : ℕ) → k < E.nodes → E.right k ≡ true → fell (ranks_after E (suc n)) k ≡ false
      → node_falls E n (ranks_after E n) k ≡ false
  stood_falls n k h r e =
      let z = rank_suc n k h in
      let s = stood_rank (ranks_after E (suc n)) k e in
      let f = (in_zero E n (ranks_after E n) k (sym z ∙ s)).1 in
      ⊎_elim
      (λ (t : node_falls E n (ranks_after E n) k ≡ true). absurd (not_both (both_true _ _ r t) f))
      (λ g. g)
      (bool (node_falls E n (ranks_after E n) k))

  pub stands : (n k : ℕ) → fell (ranks_after E n) k ≡ false → (k < E.nodes → E.right k ≡ true → node_falls E n (ranks_after E n) k ≡ false)
      → fell (ranks_after E (suc n)) k ≡ false
  stands n k e f =
      fell_false (ranks_after E (suc n)) k
      (⊎_elim
      (λ (h : k < E.nodes).
      rank_suc n k h
      ∙ in_stands E n (ranks_after E n) k e
      (⊎_elim
      (λ (t : both (E.right k) (node_falls E n (ranks_after E n) k) ≡ true).
      absurd (not_both (both_right _ _ t) (f h (both_left _ _ t))))
      (λ g. g)
      (bool (both (E.right k) (node_falls E n (ranks_after E n) k)))))
      (λ (h : E.nodes ≤ k). rank_out (suc n) k h)
      (below? k E.nodes))

  -- a rank is at most the number of rounds played
  pub rank_le : (n k : ℕ) → rank n k ≤ n
  rank_le zero k = let z = rank_zero k in omega arith
  rank_le (suc n) k =
      ⊎_elim
      (λ (e : fell (ranks_after E n) k ≡ true). let r = rank_le n k in let s = stays n k e in omega arith)
      (λ (e : fell (ranks_after E n) k ≡ false). fresh e)
      (bool (fell (ranks_after E n) k))
    where
      fresh : fell (ranks_after E n) k ≡ false → rank (suc n) k ≤ suc n
      fresh e =
          ⊎_elim
          (λ (h : k < E.nodes).
          let s = rank_suc n k h in
          ⊎_elim
          (λ (t : both (E.right k) (node_falls E n (ranks_after E n) k) ≡ true).
          let q = in_fell E n (ranks_after E n) k e (both_left _ _ t) (both_right _ _ t) in
          omega arith)
          (λ (t : both (E.right k) (node_falls E n (ranks_after E n) k) ≡ false).
          let q = in_stands E n (ranks_after E n) k e t in
          omega arith)
          (bool (both (E.right k) (node_falls E n (ranks_after E n) k))))
          (λ (h : E.nodes ≤ k). let z = rank_out (suc n) k h in omega arith)
          (below? k E.nodes)

  -- a node that falls in round n + 1 has that round as its rank, from then on
  pub rank_is_round : (n m k : ℕ) → fell (ranks_after E n) k ≡ false → fell (ranks_after E (suc n)) k ≡ true
      → rank (m + suc n) k ≡ suc n
  rank_is_round n m k e f = stays_long (suc n) m k f ∙ chained
    where
      chained : rank (suc n) k ≡ suc n
      chained =
          let h = fell_node (suc n) k f in
          let s = rank_suc n k h in
          ⊎_elim
          (λ (t : both (E.right k) (node_falls E n (ranks_after E n) k) ≡ true).
          s ∙ in_fell E n (ranks_after E n) k e (both_left _ _ t) (both_right _ _ t))
          (λ (t : both (E.right k) (node_falls E n (ranks_after E n) k) ≡ false).
          let z : rank (suc n) k ≡ 0 = s ∙ in_stands E n (ranks_after E n) k e t in
          absurd (not_both f (fell_false (ranks_after E (suc n)) k z)))
          (bool (both (E.right k) (node_falls E n (ranks_after E n) k)))

  -- and a node's rank is the round in which it first fell
  pub rank_first : (m n k : ℕ) → rank m k ≡ suc n → (fell (ranks_after E n) k ≡ false) × (fell (ranks_after E (suc n)) k ≡ true)
  rank_first zero n k e = let z = rank_zero k in absurd (omega arith)
  rank_first (suc m) n k e =
      ⊎_elim
      (λ (t : fell (ranks_after E m) k ≡ true). rank_first m n k (sym (stays m k t) ∙ e))
      (λ (t : fell (ranks_after E m) k ≡ false).
      let f = fell_true (ranks_after E (suc m)) k (rw e (omega arith)) in
      let z : 0 + suc m ≡ suc m = omega arith in
      let r = ap (λ x. rank x k) (sym z) ∙ rank_is_round m 0 k t f in
      let q : m ≡ n = omega arith in
      (rw q at t, rw q at f))
      (bool (fell (ranks_after E m) k))

  -- what makes a node fall after round 1 does not depend on the round's number
  later_falls : (n m : ℕ) (ranks : List ℕ) (k : ℕ) → node_falls E (suc n) ranks k ≡ node_falls E (suc m) ranks k
  unfolding node_falls
  later_falls n m ranks k = refl

  -- a round after round 1 in which nothing falls is final

  quiet_again : (n : ℕ) → ranks_after E (suc (suc n)) ≡ ranks_after E (suc n) → ranks_after E (suc (suc (suc n))) ≡ ranks_after E (suc (suc n))
  quiet_again n q =
      after_suc (suc (suc n))
      ∙ tabulate_same _ _ 0 E.nodes (λ k h. same k h)
      ∙ sym (after_suc (suc n))
    where
      same : (k : ℕ) → k < E.nodes → rank_in E (suc (suc n)) (ranks_after E (suc (suc n))) k ≡ rank_in E (suc n) (ranks_after E (suc n)) k
      same k h =
          rw q
          (⊎_elim
          (λ (e : fell (ranks_after E (suc n)) k ≡ true). in_fallen E _ _ k e ∙ sym (in_fallen E _ _ k e))
          (λ (e : fell (ranks_after E (suc n)) k ≡ false).
          let z : rank_in E (suc n) (ranks_after E (suc n)) k ≡ 0 =
          sym (rank_suc (suc n) k h) ∙ ap (λ l. get_or l k 0) q ∙ stood_rank (ranks_after E (suc n)) k e in
          let f = (in_zero E (suc n) _ k z).1 in
          in_stands E _ _ k e (rw (later_falls (suc n) n (ranks_after E (suc n)) k) f) ∙ sym z)
          (bool (fell (ranks_after E (suc n)) k)))

  pub quiet_final : (n m : ℕ) → ranks_after E (suc (suc n)) ≡ ranks_after E (suc n) → ranks_after E (m + suc n) ≡ ranks_after E (suc n)
  quiet_final n zero q = let z : 0 + suc n ≡ suc n = omega arith in ap (ranks_after E) z
  quiet_final n (suc m) q =
      let z : suc m + suc n ≡ m + suc (suc n) = omega arith in
      ap (ranks_after E) z ∙ quiet_final (suc n) m (quiet_again n q) ∙ q

  -- in each other round a node falls, so nodes + 1 rounds suffice

  standing : ℕ → ℕ
  standing n = count (λ k. not (fell (ranks_after E n) k)) E.nodes

  quiet_or_fewer : (n : ℕ) → (ranks_after E (suc n) ≡ ranks_after E n) ⊎ (standing (suc n) < standing n)
  unfolding standing
  quiet_or_fewer n =
      ⊎_elim
      (λ (same : (k : ℕ) → k < E.nodes → not (fell (ranks_after E (suc n)) k) ≡ not (fell (ranks_after E n) k)).
      inl
      (ext_get_or 0 _ _ (length_after (suc n) ∙ sym (length_after n))
      (λ k h. unchanged k (same k (rw (length_after (suc n)) at h)))))
      (λ l. inr l)
      (count_less
      (λ k. not (fell (ranks_after E (suc n)) k))
      (λ k. not (fell (ranks_after E n) k))
      E.nodes
      (λ k h. rw (stood_before n k (not-true _ h))))
    where
      unchanged : (k : ℕ) → not (fell (ranks_after E (suc n)) k) ≡ not (fell (ranks_after E n) k) → rank (suc n) k ≡ rank n k
      unchanged k e =
          ⊎_elim
          (λ (t : fell (ranks_after E n) k ≡ true). stays n k t)
          (λ (t : fell (ranks_after E n) k ≡ false).
          stood_rank (ranks_after E (suc n)) k (not-true _ (e ∙ ap not t)) ∙ sym (stood_rank (ranks_after E n) k t))
          (bool (fell (ranks_after E n) k))

  progress : (n : ℕ) → (ranks_after E (suc (suc n)) ≡ ranks_after E (suc n)) ⊎ (standing (suc n) + n ≤ E.nodes)
  unfolding standing
  progress zero = inr (let l = count_le (λ k. not (fell (ranks_after E 1) k)) E.nodes in omega arith)
  progress (suc n) =
      ⊎_elim
      (λ q. inl (quiet_again n q))
      (λ (l : standing (suc n) + n ≤ E.nodes).
      ⊎_elim
      (λ q. inl (quiet_again n q))
      (λ (f : standing (suc (suc n)) < standing (suc n)). inr (omega arith))
      (quiet_or_fewer (suc n)))
      (progress n)

  -- after nodes + 1 rounds nothing falls
  pub final_quiet : ranks_after E (suc (suc E.nodes)) ≡ ranks_after E (suc E.nodes)
  final_quiet =
      ⊎_elim
      (λ q. q)
      (λ (l : standing (suc E.nodes) + E.nodes ≤ E.nodes).
      ⊎_elim
      (λ q. q)
      (λ (f : standing (suc (suc E.nodes)) < standing (suc E.nodes)). absurd (omega arith))
      (quiet_or_fewer (suc E.nodes)))
      (progress E.nodes)

  pub final_after : (m : ℕ) → ranks_after E (m + suc E.nodes) ≡ final_ranks E
  unfolding final_ranks
  final_after m = quiet_final E.nodes m final_quiet

  -- where in a round after round 1 nothing falls, the ranks are the final ones: what a loop of rounds may stop at
  pub final_is : (n : ℕ) → ranks_after E (suc (suc n)) ≡ ranks_after E (suc n) → final_ranks E ≡ ranks_after E (suc n)
  final_is n q =
      sym (final_after (suc n))
      ∙ ap (ranks_after E) (let z : suc n + suc E.nodes ≡ suc E.nodes + suc n = omega arith in z)
      ∙ quiet_final n (suc E.nodes) q

  pub final_length : length (final_ranks E) ≡ E.nodes
  unfolding final_ranks
  final_length = length_after (suc E.nodes)

  -- "two bytes of rank": a rank is at most nodes + 1
  pub final_le : (k : ℕ) → get_or (final_ranks E) k 0 ≤ suc E.nodes
  unfolding final_ranks
  final_le k = rank_le (suc E.nodes) k

  -- each fallen node's rank is its round
  pub final_round : (n k : ℕ) → (get_or (final_ranks E) k 0 ≡ suc n)
      ↔ ((fell (ranks_after E n) k ≡ false) × (fell (ranks_after E (suc n)) k ≡ true))
  unfolding final_ranks
  final_round n k = (
    λ e. rank_first (suc E.nodes) n k e,
    λ f.
        let r = rank_is_round n (suc E.nodes) k f.0 f.1 in
        let z : suc E.nodes + suc n ≡ suc n + suc E.nodes = omega arith in
        let e = final_after (suc n) in
        ap (λ l. get_or l k 0) (sym (unfold final_ranks in e)) ∙ ap (λ x. rank x k) (sym z) ∙ r,
  )
