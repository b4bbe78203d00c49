-- One round in place, and all rounds (specs/code/Falling.antt). A node that falls in a round counts as fallen only in the next, since its
-- rank is over n; so the half-updated list and the list at the round's start say the same. Assumes nothing.
use Prim.Native.Nat.{ℕ, zero, suc, ◌+◌, ◌*◌, ◌/◌, ◌≤◌, ◌<◌}
use mathlib.Core.Path.{◌≡◌, refl, sym, ◌∙◌, ap, fun_ext}
use mathlib.Core.Bool.{Bool, true, false, not}
use mathlib.Core.List.{List, [], ◌∷◌}
use mathlib.Core.Logic.{◌⊎◌, ⊎_elim}
use native.Mathlib.Omega.{arith}
use native.Mathlib.Numerals.{add-one}
use lib.Dec.{eqb, ltb, leb}
use lib.ListN.{length, get_or, set}
use lib.Seq.{ext_get_or}
use borrow.Author.Rules.{rules}
use borrow.Author.Tests.{lt-ltb, le-ltb, le-leb, lt-leb, not-true}
use Rattle.theory.specs.Fold.{both, all_below, any_below, tabulate, count}
use Rattle.theory.specs.Rounds.{Arena, spoilt_by, fell, node_falls, rank_in, ranks_after, final_ranks}
use Rattle.theory.specs.Delay.{on_right}
use Rattle.theory.proofs.Fold.{bool, below?, both_true, both_left, both_right, both_false, any_none, any_suc, either_right, tabulate_same}
use Rattle.theory.proofs.Fold.{length_tabulate, get_d_tabulate, any_below_none, any_some, not_both, count_le, count_less, both_none}
use Rattle.theory.proofs.Fold.{both_second, either_first, not_not}
use Rattle.theory.proofs.Rounds.{rank_zero, rank_le, length_after, stays_fallen, fell_true, fell_false, stood_rank, in_fallen, in_fell, in_stands, after_suc, final_is}
use Rattle.sheet.specs.Kinds.{controller_at, safe_at}
use Rattle.walk.specs.declared.level.Level.{Level}
use Rattle.walk.specs.code.Levels.{arena_of}
use Rattle.sheet.specs.code.Arrays.{view_of}
use Rattle.walk.specs.code.Walks.{fallen_by}
use Rattle.walk.proofs.NodeLaws.{filled_all}
use Rattle.rounds.specs.code.Falling.{first_rank, falls_to, falls_next, next_ranks, AtMost, last_round}
use Rattle.theory.proofs.Filling.{filled, filled_none, filled_more, filled_keep, filled_done, filled_below, filled_above}

pub ruleset filling = (rules, filled_none, filled_more, filled_all)

-- the arena of the arrays

module _ (p : List ℕ) (g : List (List ℕ)) (u f : List ℕ) (l : Level) where
  pub right_is : (k : ℕ) → (arena_of p g u f l).right k ≡ on_right l.odd (controller_at p) (k / l.words)
  unfolding arena_of view_of
  right_is k = refl

-- one round: n of them are over, and the first k nodes of the next are done

-- a rank of 1 to n
unfoldable within : ℕ → ℕ → Bool
within n r = both (ltb 0 r) (leb r n)

within_zero : (n r : ℕ) → r ≡ 0 → within n r ≡ false
unfolding within
within_zero n r z = both_none _ _ (le-ltb 0 r (omega arith))

within_over : (n r : ℕ) → n < r → within n r ≡ false
unfolding within
within_over n r h = both_false (ltb 0 r) _ (lt-leb r n h)

within_some : (n r : ℕ) → 0 < r → r ≤ n → within n r ≡ true
unfolding within
within_some n r h k = both_true _ _ (lt-ltb 0 r h) (le-leb r n k)

fallen_is : (n : ℕ) (marks : List ℕ) (k : ℕ) → fallen_by n marks k ≡ within n (get_or marks k 0)
unfolding fallen_by within
fallen_is n marks k = refl

-- with no rank over n, what has fallen has a rank
pub fallen_all : (n : ℕ) (ranks : List ℕ) → AtMost n ranks → fallen_by n ranks ≡ fell ranks
fallen_all n ranks most =
    fun_ext
    (λ k.
    fallen_is n ranks k
    ∙ ⊎_elim
    (λ (h : 0 < get_or ranks k 0). within_some n _ h (most k) ∙ sym (fell_true ranks k h))
    (λ (h : get_or ranks k 0 ≤ 0). within_zero n _ (omega arith) ∙ sym (fell_false ranks k (omega arith)))
    (below? 0 (get_or ranks k 0)))

stands_is : (ranks : List ℕ) (k : ℕ) → eqb (get_or ranks k 0) 0 ≡ not (fell ranks k)
unfolding fell
stands_is ranks k = sym (not_not (eqb (get_or ranks k 0) 0))

falls_later : (E : Arena) (n : ℕ) (old : List ℕ) (k : ℕ) → 1 ≤ n → node_falls E n old k ≡ all_below (spoilt_by E (fell old) k) E.actions
unfolding node_falls
falls_later E zero old k h = absurd (omega arith)
falls_later E (suc n) old k h = refl

module _ (E : Arena) (n : ℕ) (old : List ℕ) where
  -- a rank of the round under way is an old one or over n
  rank_within : (k : ℕ) → within n (rank_in E n old k) ≡ within n (get_or old k 0)
  rank_within k =
      ⊎_elim
      (λ (e : fell old k ≡ true). ap (within n) (in_fallen E n old k e))
      (λ (e : fell old k ≡ false).
      let z = within_zero n (get_or old k 0) (stood_rank old k e) in
      ⊎_elim
      (λ (s : both (E.right k) (node_falls E n old k) ≡ true).
      let q = in_fell E n old k e (both_left _ _ s) (both_right _ _ s) in
      within_over n (rank_in E n old k) (omega arith) ∙ sym z)
      (λ (s : both (E.right k) (node_falls E n old k) ≡ false).
      within_zero n (rank_in E n old k) (in_stands E n old k e s) ∙ sym z)
      (bool (both (E.right k) (node_falls E n old k))))
      (bool (fell old k))

  fallen_now : (k : ℕ) → fallen_by n (filled (rank_in E n old) k old) ≡ fallen_by n old
  fallen_now k =
      fun_ext
      (λ j.
      fallen_is n (filled (rank_in E n old) k old) j
      ∙ ⊎_elim
      (λ (h : j < k). ap (within n) (filled_below (rank_in E n old) old k j h) ∙ rank_within j)
      (λ (h : k ≤ j). ap (within n) (filled_above (rank_in E n old) old k j h))
      (below? j k)
      ∙ sym (fallen_is n old j))

  -- by the half-updated list the same nodes fall as by the old one
  falls_here_now : (k : ℕ) → AtMost n old → 1 ≤ n → falls_to E n (filled (rank_in E n old) k old) k ≡ falls_next E n old k
  unfolding falls_to falls_next
  falls_here_now k most some =
      rw (
        filled_above (rank_in E n old) old k k (omega arith),
        stands_is old k,
        fallen_now k ∙ fallen_all n old most,
        ← falls_later E n old k some,
      )

  -- a node that falls gets the round's rank, another keeps its own

  rank_fell : (k : ℕ) → falls_next E n old k ≡ true → n + 1 ≡ rank_in E n old k
  unfolding falls_next
  rank_fell k e =
      let r = both_right (not (fell old k)) _ e in
      add-one n ∙ sym (in_fell E n old k (not-true (fell old k) (both_left _ _ e)) (both_left _ _ r) (both_right (E.right k) _ r))

  rank_kept : (k : ℕ) → falls_next E n old k ≡ false → get_or old k 0 ≡ rank_in E n old k
  unfolding falls_next
  rank_kept k e =
      ⊎_elim
      (λ (f : fell old k ≡ true). sym (in_fallen E n old k f))
      (λ (f : fell old k ≡ false).
      let b : both (E.right k) (node_falls E n old k) ≡ false = sym (both_second (not (fell old k)) _ (ap not f)) ∙ e in
      stood_rank old k f ∙ sym (in_stands E n old k f b))
      (bool (fell old k))

  module _ (k : ℕ) {now : List ℕ} {r : Bool} (most : AtMost n old) (some : 1 ≤ n) (e : now ≡ filled (rank_in E n old) k old) (s : r ≡ falls_to E n now k) where
    falls_old : r ≡ falls_next E n old k
    falls_old = s ∙ ap (λ (l : List ℕ). falls_to E n l k) e ∙ falls_here_now k most some

    pub round_fell : r ≡ true → k < length old → set now k (n + 1) ≡ filled (rank_in E n old) (k + 1) old
    round_fell t h = filled_more (rank_in E n old) old k e h (rank_fell k (sym falls_old ∙ t))

    pub round_kept : r ≡ false → k < length old → now ≡ filled (rank_in E n old) (k + 1) old
    round_kept t h = filled_keep (rank_in E n old) old k e h (rank_kept k (sym falls_old ∙ t))

    pub any_fell : r ≡ true → true ≡ any_below (falls_next E n old) (k + 1)
    any_fell t = sym (rw (add-one k, any_suc (falls_next E n old) k) (either_right _ _ (sym falls_old ∙ t)))

    pub any_kept : {any : Bool} → any ≡ any_below (falls_next E n old) k → r ≡ false → any ≡ any_below (falls_next E n old) (k + 1)
    any_kept {any} a t =
        a ∙ sym (rw (add-one k, any_suc (falls_next E n old) k) (either_first _ _ (sym falls_old ∙ t)))

nodes_of_lem : (p : List ℕ) (g : List (List ℕ)) (u f : List ℕ) (l : Level) → (arena_of p g u f l).nodes ≡ length p * l.words
unfolding arena_of view_of
nodes_of_lem p g u f l = refl

pub round_done : (p : List ℕ) (g : List (List ℕ)) (u f : List ℕ) (l : Level) (n k : ℕ) (old : List ℕ) {m : List ℕ}
    → m ≡ filled (rank_in (arena_of p g u f l) n old) k old → length old ≡ l.nodes → k ≤ l.nodes → l.nodes ≤ k
    → l.nodes ≡ length p * l.words → m ≡ next_ranks (arena_of p g u f l) n old
unfolding next_ranks
round_done p g u f l n k old e h a b s =
    let q : l.nodes ≡ (arena_of p g u f l).nodes = s ∙ sym (nodes_of_lem p g u f l) in
    filled_done (rank_in (arena_of p g u f l) n old) old k (arena_of p g u f l).nodes e (h ∙ q) (rw q at a) (rw q at b)

pub any_over : (t : ℕ → Bool) {k n : ℕ} {any : Bool} → any ≡ any_below t k → k ≤ n → n ≤ k → any ≡ any_below t n
any_over t {k} {n} e a b = let q : k ≡ n = omega arith in e ∙ ap (any_below t) q

pub none_fell : (t : ℕ → Bool) → false ≡ any_below t 0
none_fell t = sym (any_none t)

pub ruleset rounding = (rules, filled_none, none_fell)

-- all rounds

-- the nodes that have not fallen
unfoldable pub standing : List ℕ → ℕ → ℕ
standing ranks n = count (λ k. not (fell ranks k)) n

module _ (p : List ℕ) (g : List (List ℕ)) (u f : List ℕ) (l : Level) where
  abbrev arena_here : Arena
  arena_here = arena_of p g u f l

  safe_is : (k : ℕ) → arena_here.safe k ≡ safe_at p (k / l.words)
  unfolding arena_of view_of
  safe_is k = refl

  first_rank_is : (k : ℕ) → first_rank p l k ≡ rank_in arena_here 0 (ranks_after arena_here 0) k
  unfolding first_rank rank_in node_falls
  first_rank_is k =
      rw (fell_false (ranks_after arena_here 0) k (rank_zero arena_here k), right_is p g u f l k, safe_is k)

  pub after_first : l.nodes ≡ length p * l.words → tabulate (first_rank p l) 0 l.nodes ≡ ranks_after arena_here 1
  after_first s =
      ap (tabulate (first_rank p l) 0) (s ∙ sym (nodes_of_lem p g u f l))
      ∙ tabulate_same (first_rank p l) (rank_in arena_here 0 (ranks_after arena_here 0)) 0 arena_here.nodes (λ k h. first_rank_is k)
      ∙ sym (after_suc arena_here 0)

  pub first_ranked : {ranks : List ℕ} → ranks ≡ tabulate (first_rank p l) 0 l.nodes → l.nodes ≡ length p * l.words
      → ranks ≡ ranks_after arena_here 1
  first_ranked e s = e ∙ after_first s

next_at : (E : Arena) (n : ℕ) (ranks : List ℕ) (k : ℕ) → k < E.nodes → get_or (next_ranks E n ranks) k 0 ≡ rank_in E n ranks k
unfolding next_ranks
next_at E n ranks k h = get_d_tabulate (rank_in E n ranks) E.nodes k 0 h

quiet_last : (E : Arena) (n : ℕ) → 1 ≤ n → ranks_after E (suc n) ≡ ranks_after E n → final_ranks E ≡ ranks_after E n
quiet_last E zero h q = absurd (omega arith)
quiet_last E (suc m) h q = final_is E m q

module _ (E : Arena) (n : ℕ) {ranks : List ℕ} (e : ranks ≡ ranks_after E n) where
  pub ranked_most : AtMost n ranks
  ranked_most k = rw e (rank_le E n k)

  pub ranked_next : {now : List ℕ} → now ≡ next_ranks E n ranks → now ≡ ranks_after E (n + 1)
  unfolding next_ranks
  ranked_next d =
      d
      ∙ ap (λ (l : List ℕ). tabulate (rank_in E n l) 0 E.nodes) e
      ∙ sym (rw (add-one n) (after_suc E n))

  -- a round in which nothing falls is the last

  same_ranks : any_below (falls_next E n ranks) E.nodes ≡ false → next_ranks E n ranks ≡ ranks
  unfolding next_ranks
  same_ranks a =
      ext_get_or 0 (tabulate (rank_in E n ranks) 0 E.nodes) ranks
      (length_tabulate (rank_in E n ranks) 0 E.nodes ∙ sym (ap length e ∙ length_after E n))
      (λ k h.
      let b : k < E.nodes = rw (length_tabulate (rank_in E n ranks) 0 E.nodes) at h in
      get_d_tabulate (rank_in E n ranks) E.nodes k 0 b
      ∙ sym (rank_kept E n ranks k (any_below_none (falls_next E n ranks) E.nodes a k b)))

  final_now : 1 ≤ n → any_below (falls_next E n ranks) E.nodes ≡ false → final_ranks E ≡ ranks_after E n
  final_now h a =
      let d = ranked_next {now = next_ranks E n ranks} refl in
      quiet_last E n h (ap (ranks_after E) (sym (add-one n)) ∙ sym d ∙ same_ranks a ∙ e)

  pub ranked_final : {now : List ℕ} → 1 ≤ n → now ≡ next_ranks E n ranks → any_below (falls_next E n ranks) E.nodes ≡ false → now ≡ final_ranks E
  ranked_final h d a = d ∙ same_ranks a ∙ e ∙ sym (final_now h a)

  pub final_most : {now : List ℕ} → 1 ≤ n → now ≡ next_ranks E n ranks → any_below (falls_next E n ranks) E.nodes ≡ false → AtMost n now
  final_most h d a k = rw (d ∙ same_ranks a) (ranked_most k)

  -- a round in which a node falls leaves fewer standing

  falls_stands : (k : ℕ) → falls_next E n ranks k ≡ true → fell ranks k ≡ false
  unfolding falls_next
  falls_stands k t = not-true (fell ranks k) (both_left _ _ t)

  pub ranked_fewer : {now : List ℕ} → now ≡ next_ranks E n ranks → any_below (falls_next E n ranks) E.nodes ≡ true
      → standing now E.nodes < standing ranks E.nodes
  unfolding standing
  ranked_fewer {now} d a =
      let s = any_some (falls_next E n ranks) E.nodes a in
      ⊎_elim
      (λ same.
      let q = same s.0 s.1 in
      let r = falls_stands s.0 s.2 in
      absurd (not_both (ap not r) (sym q ∙ ap not (fell_true now s.0 (new s.0 s.1 s.2)))))
      (λ l. l)
      (count_less (λ k. not (fell now k)) (λ k. not (fell ranks k)) E.nodes (λ k t. older k (bool (fell ranks k)) t))
    where
      new : (k : ℕ) → k < E.nodes → falls_next E n ranks k ≡ true → 0 < get_or now k 0
      new k h t =
          let q : get_or now k 0 ≡ rank_in E n ranks k = ap (λ (l : List ℕ). get_or l k 0) d ∙ next_at E n ranks k h in
          let r = rank_fell E n ranks k t in
          omega arith

      older : (k : ℕ) → (fell ranks k ≡ true) ⊎ (fell ranks k ≡ false) → not (fell now k) ≡ true → not (fell ranks k) ≡ true
      older k b t =
          ⊎_elim
          (λ (f : fell ranks k ≡ true).
          let g : fell now k ≡ true = rw (ranked_next d, add-one n) (stays_fallen E n k (rw e at f)) in
          absurd (not_both g (not-true (fell now k) t)))
          (λ (f : fell ranks k ≡ false). ap not f)
          b

-- the last round

last_le : (ranks : List ℕ) (n : ℕ) → 1 ≤ n → AtMost n ranks → last_round ranks ≤ n
unfolding last_round
last_le [] n h m = h
last_le (r ∷ ranks) n h m = let a = m 0 in let b = last_le ranks n h (λ k. m (suc k)) in omega arith

pub last_some : (ranks : List ℕ) → 1 ≤ last_round ranks
unfolding last_round
last_some [] = omega arith
last_some (r ∷ ranks) = let a = last_some ranks in omega arith

pub last_most : (ranks : List ℕ) → AtMost (last_round ranks) ranks
unfolding last_round
last_most [] k = omega arith
last_most (r ∷ ranks) zero = omega arith
last_most (r ∷ ranks) (suc k) = let a = last_most ranks k in omega arith

-- the same at the number of nodes that the level has

module _ (p : List ℕ) (g : List (List ℕ)) (u f : List ℕ) (l : Level) (s : l.nodes ≡ length p * l.words) (n : ℕ) {ranks now : List ℕ}
    (e : ranks ≡ ranks_after (arena_of p g u f l) n) (d : now ≡ next_ranks (arena_of p g u f l) n ranks)
    {r : Bool} (a : r ≡ any_below (falls_next (arena_of p g u f l) n ranks) l.nodes) where
  all_nodes : l.nodes ≡ (arena_of p g u f l).nodes
  all_nodes = s ∙ sym (nodes_of_lem p g u f l)

  falls_here : any_below (falls_next (arena_of p g u f l) n ranks) (arena_of p g u f l).nodes ≡ r
  falls_here = ap (any_below (falls_next (arena_of p g u f l) n ranks)) (sym all_nodes) ∙ sym a

  pub rounds_final : 1 ≤ n → r ≡ false → now ≡ final_ranks (arena_of p g u f l)
  rounds_final h t = ranked_final (arena_of p g u f l) n e h d (falls_here ∙ t)

  -- the number of a round in which a node falls is reached, and the last one's is the largest
  pub rounds_reach : r ≡ true → n + 1 ≤ last_round now
  rounds_reach t =
      let E = arena_of p g u f l in
      let s = any_some (falls_next E n ranks) E.nodes (falls_here ∙ t) in
      let q : get_or now s.0 0 ≡ rank_in E n ranks s.0 = ap (λ (l : List ℕ). get_or l s.0 0) d ∙ next_at E n ranks s.0 s.1 in
      let z = rank_fell E n ranks s.0 s.2 in
      let m = last_most now s.0 in
      omega arith

  pub rounds_last : 1 ≤ n → r ≡ false → n ≤ last_round ranks → n ≡ last_round now
  rounds_last h t m =
      let E = arena_of p g u f l in
      let a = falls_here ∙ t in
      let b = last_le now n h (final_most E n e h d a) in
      let c : last_round now ≡ last_round ranks = ap last_round (d ∙ same_ranks E n e a) in
      omega arith

  pub rounds_fewer : r ≡ true → standing now l.nodes < standing ranks l.nodes
  rounds_fewer t =
      let h = ranked_fewer (arena_of p g u f l) n e d (falls_here ∙ t) in
      let x = ap (standing now) all_nodes in
      let y = ap (standing ranks) all_nodes in
      omega arith

  pub rounds_count : r ≡ true → n + standing ranks l.nodes ≤ l.nodes + 1 → n + 1 + standing now l.nodes ≤ l.nodes + 1
  rounds_count t h = let m = rounds_fewer t in omega arith

-- after round 1
standing_le : (ranks : List ℕ) (n : ℕ) → standing ranks n ≤ n
unfolding standing
standing_le ranks n = count_le (λ k. not (fell ranks k)) n

pub first_count : (ranks : List ℕ) (n : ℕ) → 1 + standing ranks n ≤ n + 1
first_count ranks n = let h = standing_le ranks n in omega arith

pub ruleset all_rounds = (rules, first_ranked, first_count, ranked_most, last_some)
