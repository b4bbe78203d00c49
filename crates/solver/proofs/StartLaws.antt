-- Once round 1 is placed (specs/First.antt), the state is good for working round 2. Assumes nothing.
use Prim.Native.Nat.{ℕ, zero, suc, ◌+◌, ◌-◌, ◌/◌, ◌^◌, ◌≤◌, ◌<◌}
use mathlib.Core.Path.{◌≡◌, refl, sym, ◌∙◌, ap}
use mathlib.Core.Bool.{Bool, true, false, not, cond}
use mathlib.Core.Logic.{inl}
use mathlib.Core.List.{List}
use native.Mathlib.Omega.{arith}
use lib.Pow.{pow_pos, pow_mono}
use lib.ListN.{get_or, get_or-eq_default}
use Rattle.theory.specs.Fold.{both, count}
use Rattle.theory.specs.Rounds.{Arena, fell, node_falls, rank_in, ranks_after}
use Rattle.theory.specs.Delay.{on_right}
use Rattle.theory.specs.Table.{bit}
use Rattle.theory.proofs.Fold.{bool, not_both, below?, both_none, both_second}
use Rattle.theory.proofs.Rounds.{fell_true, fell_false, rank_zero, rank_suc, rank_out}
use Rattle.theory.proofs.Masks.{full_bit}
use Rattle.sheet.specs.Kinds.{controller_at, safe_at}
use Rattle.walk.specs.declared.level.Level.{Level}
use Rattle.solver.specs.code.Work.{Work}
use Rattle.solver.specs.code.First.{row_falls, row_mask, stand_below, Placed}
use Rattle.solver.proofs.StateLaws.{rank_of, mask_of, entry_of, standing, Good}

-- a node's rank after round 1
pub first_rank_lem : (E : Arena) (k : ℕ) → k < E.nodes → get_or (ranks_after E 1) k 0 ≡ cond (both (E.right k) (not (E.safe k))) 1 0
unfolding rank_in node_falls
first_rank_lem E k h = rank_suc E 0 k h ∙ rw (fell_false (ranks_after E 0) k (rank_zero E k))

module _ (E : Arena) (p : List ℕ) (l : Level) (w : Work) (some : 0 < E.actions)
    (nodes_is : l.nodes ≡ E.nodes) (right_is : (k : ℕ) → E.right k ≡ on_right l.odd (controller_at p) (k / l.words))
    (safe_is : (k : ℕ) → E.safe k ≡ safe_at p (k / l.words)) (placed : Placed p l (2 ^ E.actions - 1) l.nodes w) where
  abbrev full : ℕ
  full = 2 ^ E.actions - 1

  abbrev fallen : ℕ → Bool
  fallen k = row_falls l.odd p (k / l.words)

  fallen_is : (k : ℕ) → fallen k ≡ both (E.right k) (not (E.safe k))
  unfolding row_falls
  fallen_is k = rw (right_is k, safe_is k)

  mask_is : (k : ℕ) → row_mask l.odd p full (k / l.words) ≡ cond (both (E.right k) (E.safe k)) full 0
  unfolding row_mask
  mask_is k = rw (right_is k, safe_is k)

  rank_at_lem : (k : ℕ) → k < E.nodes → rank_of w k ≡ cond (both (E.right k) (not (E.safe k))) 1 0
  rank_at_lem k h = placed.ranks k (omega arith) ∙ ap (λ (b : Bool). cond b 1 0) (fallen_is k)

  mask_at_lem : (k : ℕ) → k < E.nodes → mask_of w k ≡ cond (both (E.right k) (E.safe k)) full 0
  mask_at_lem k h = placed.masks k (omega arith) ∙ mask_is k

  rank_past : (k : ℕ) → E.nodes ≤ k → rank_of w k ≡ 0
  rank_past k h = let s = placed.ranks_size in get_or-eq_default w.ranks 0 (omega arith)

  mask_past : (k : ℕ) → E.nodes ≤ k → mask_of w k ≡ 0
  mask_past k h = let s = placed.masks_size in get_or-eq_default w.masks 0 (omega arith)

  -- three kinds of nodes
  module _ (k : ℕ) (h : k < E.nodes) where
    wrong_mask : E.right k ≡ false → mask_of w k ≡ 0
    wrong_mask r = mask_at_lem k h ∙ rw (both_none (E.right k) (E.safe k) r)

    unsafe_rank : E.right k ≡ true → E.safe k ≡ false → rank_of w k ≡ 1
    unsafe_rank r s = rank_at_lem k h ∙ rw (both_second (E.right k) (not (E.safe k)) r, s)

    unsafe_mask : E.right k ≡ true → E.safe k ≡ false → mask_of w k ≡ 0
    unsafe_mask r s = mask_at_lem k h ∙ rw (both_second (E.right k) (E.safe k) r, s)

    safe_rank : E.right k ≡ true → E.safe k ≡ true → rank_of w k ≡ 0
    safe_rank r s = rank_at_lem k h ∙ rw (both_second (E.right k) (not (E.safe k)) r, s)

    safe_mask : E.right k ≡ true → E.safe k ≡ true → mask_of w k ≡ full
    safe_mask r s = mask_at_lem k h ∙ rw (both_second (E.right k) (E.safe k) r, s)

  rank_same : (k : ℕ) → rank_of w k ≡ get_or (ranks_after E 1) k 0
  rank_same k = grind (arith, below? k E.nodes, rank_at_lem k, first_rank_lem E k, rank_past k, rank_out E 1 k)

  -- a node of the right side that stands is safe
  stands_safe : (k : ℕ) → k < E.nodes → E.right k ≡ true → rank_of w k ≡ 0 → E.safe k ≡ true
  stands_safe k h r z = grind (arith, unsafe_rank k h r)

  fallen_rank : (k : ℕ) → k < E.nodes → fallen k ≡ true → rank_of w k ≡ 1
  fallen_rank k h f = placed.ranks k (omega arith) ∙ rw f

  rank_fallen : (k : ℕ) → k < E.nodes → rank_of w k ≡ 1 → fallen k ≡ true
  rank_fallen k h e = grind (arith, placed.ranks k)

  none_at : (k : ℕ) → 0 < rank_of w k → mask_of w k ≡ 0
  none_at k a = grind (arith, below? k E.nodes, safe_rank k, unsafe_mask k, wrong_mask k, mask_past k)

  wrong_at : (k : ℕ) → E.right k ≡ false → mask_of w k ≡ 0
  wrong_at k r = grind (arith, below? k E.nodes, wrong_mask k, mask_past k)

  small_at : (k : ℕ) → mask_of w k < 2 ^ E.actions
  small_at k =
      let o = pow_pos E.actions in
      grind (arith, below? k E.nodes, bool (both (E.right k) (E.safe k)), mask_at_lem k, mask_past k)

  stand_count : (n : ℕ) → n ≤ E.nodes → count (λ k. not (fell w.ranks k)) n ≡ stand_below p l n
  unfolding count stand_below
  stand_count zero h = refl
  stand_count (suc n) h =
      grind (arith, stand_count n, bool (fallen n), fallen_rank n, placed.ranks n, fell_true w.ranks n, fell_false w.ranks n)

  room_at : w.tail + standing w.ranks E.nodes ≤ E.nodes
  unfolding standing
  room_at =
      let c = placed.count in
      let q : stand_below p l l.nodes ≡ stand_below p l E.nodes = ap (stand_below p l) nodes_is in
      let e = stand_count E.nodes (omega arith) in
      omega arith

  low_two : 0 < full
  low_two =
      let q : 2 ^ 1 ≤ 2 ^ E.actions = pow_mono some in
      let r : 2 ^ 1 ≡ 2 = refl in
      omega arith

  pub start_good : Good E 1 0 w.tail w
  start_good =
      record {
        ranks_size = placed.ranks_size ∙ nodes_is;
        masks_size = placed.masks_size ∙ nodes_is;
        queue_size = placed.queue_size ∙ nodes_is;
        rank = λ k. inl (rank_same k);
        none = none_at;
        left = λ k h r z. let e = safe_mask k h r (stands_safe k h r z) in let t = low_two in omega arith;
        wrong = wrong_at;
        small = small_at;
        sound = λ k c h r z a e.
            let m = safe_mask k h r (stands_safe k h r (rank_same k ∙ z)) in
            absurd (not_both (full_bit E.actions c a) (ap (λ (x : ℕ). bit x c) (sym m) ∙ e));
        old =
            record {
              node = λ i a b. let o = placed.node i b in omega arith;
              ranked = λ i a b.
                  let o = placed.node i b in
                  sym (rank_same (entry_of w i)) ∙ fallen_rank (entry_of w i) (omega arith) (placed.fallen i b);
              every = λ k h e.
                  let o = placed.every k (omega arith) (rank_fallen k h (rank_same k ∙ e)) in
                  (o.0, (let z : 0 ≤ o.0 = omega arith in z), o.1, o.2);
            };
        new =
            record {
              node = λ i a b. absurd (omega arith);
              ranked = λ i a b. absurd (omega arith);
              every = λ k h e. absurd (never k h e);
            };
        order = omega arith;
        room = room_at;
      }
    where
      never : (k : ℕ) → k < E.nodes → rank_of w k ≡ 1 + 1 → ⊥
      never k h e = grind (arith, bool (fallen k), fallen_rank k h, placed.ranks k)
