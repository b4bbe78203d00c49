-- A round that is worked to its end leaves the next round's ranks, and the last one leaves the final ranks and the masks.
-- Assumes nothing.
use Prim.Native.Nat.{ℕ, suc, ◌≤◌, ◌<◌}
use mathlib.Core.Path.{◌≡◌, sym, ◌∙◌, ap}
use mathlib.Core.Bool.{true, false, not}
use mathlib.Core.Logic.{inl}
use mathlib.Core.List.{List, Memᴰ}
use native.Mathlib.Omega.{arith}
use native.Mathlib.Numerals.{add-one}
use lib.Pow.{pow_pos}
use lib.ListN.{get_or}
use lib.Seq.{ext_get_or}
use Rattle.theory.specs.Game.{Target, absent, to}
use Rattle.theory.specs.Rounds.{Arena, bad, spoilt_by, fell, node_falls, rank_in, ranks_after, final_ranks, kept_by, mask_below, mask_at, masks_by, masks}
use Rattle.theory.specs.Table.{bit}
use Rattle.theory.proofs.Fold.{bool, both_none, both_false, both_true, all_at, all_below_lem, any_of_some, length_tabulate, get_d_tabulate}
use Rattle.theory.proofs.Rounds.{spoilt_more, fell_true, fell_rank, stood_rank, in_fallen, in_fell, in_stands, length_after, rank_suc, rank_le, final_is}
use Rattle.theory.proofs.Masks.{bits_ext, zero_bit, mask_lt, mask_bit}
use Rattle.solver.specs.code.Work.{Work}
use Rattle.solver.proofs.StateLaws.{rank_of, mask_of, Segment, Good, Went}

-- every action with this outcome is marked
pub record Marked (E : Arena) (w : Work) (o : Target) : Type 0 where
  pub out : (k c : ℕ) → k < E.nodes → c < E.actions → E.right k ≡ true → Memᴰ o (E.step k c) → bit (mask_of w k) c ≡ false

pub marked_still : {E : Arena} {w w' : Work} {o : Target} → Went w w' → Marked E w o → Marked E w' o
marked_still t m = record { out = λ k c h a r e. t.out k c (m.out k c h a r e) }

-- the outcomes that spoil an action by the nodes fallen in rounds 1 to n are marked
pub record AllMarked (E : Arena) (n : ℕ) (w : Work) : Type 0 where
  pub blocked : Marked E w absent
  pub fallen : (j : ℕ) → fell (ranks_after E n) j ≡ true → Marked E w (to j)

module _ (E : Arena) (m lo hi : ℕ) (w : Work) (g : Good E (suc m) lo hi w) (all : AllMarked E (suc m) w) where
  abbrev old : List ℕ
  old = ranks_after E (suc m)

  -- a spoilt action has no bit
  spoilt_out : (k c : ℕ) → k < E.nodes → c < E.actions → E.right k ≡ true → spoilt_by E (fell old) k c ≡ true → bit (mask_of w k) c ≡ false
  unfolding spoilt_by bad
  spoilt_out k c h a r e = let s = any_of_some (bad (fell old)) (E.step k c) e in cases s.0 s.1 s.2
    where
      cases : (o : Target) → Memᴰ o (E.step k c) → bad (fell old) o ≡ true → bit (mask_of w k) c ≡ false
      cases absent t b = all.blocked.out k c h a r t
      cases (to j) t b = (all.fallen j b).out k c h a r t

  -- a node that falls by round n + 1 has no bit left
  none_left : (k : ℕ) → k < E.nodes → E.right k ≡ true → node_falls E (suc m) old k ≡ true → mask_of w k ≡ 0
  unfolding node_falls
  none_left k h r f =
      bits_ext E.actions (mask_of w k) 0 (g.small k) (pow_pos E.actions)
      (λ c a. spoilt_out k c h a r (all_at _ E.actions f c a) ∙ sym (zero_bit c))

  -- and one with no bit left falls
  none_falls : (k : ℕ) → k < E.nodes → E.right k ≡ true → get_or old k 0 ≡ 0 → mask_of w k ≡ 0 → node_falls E (suc m) old k ≡ true
  unfolding node_falls
  none_falls k h r z e =
      all_below_lem _ E.actions (λ c a. g.sound k c h r z a (ap (λ (x : ℕ). bit x c) e ∙ zero_bit c))

  rank_next : (k : ℕ) → k < E.nodes → rank_of w k ≡ rank_in E (suc m) old k
  rank_next k h =
      grind (
        arith,
        bool (fell old k),
        bool (E.right k),
        bool (node_falls E (suc m) old k),
        g.rank k,
        in_fallen E (suc m) old k,
        in_stands E (suc m) old k,
        in_fell E (suc m) old k,
        both_none (E.right k) (node_falls E (suc m) old k),
        both_false (E.right k) (node_falls E (suc m) old k),
        fell_rank old k,
        stood_rank old k,
        none_left k h,
        none_falls k h,
        g.left k h,
        g.none k,
      )

  pub round_ranks : w.ranks ≡ ranks_after E (suc (suc m))
  round_ranks =
      ext_get_or 0 _ _ (g.ranks_size ∙ sym (length_after E (suc (suc m))))
      (λ k h. let l : k < E.nodes = (let s = g.ranks_size in omega arith) in rank_next k l ∙ sym (rank_suc E (suc m) k l))

  -- the state is good for the next round
  pub round_good : Good E (suc (suc m)) hi w.tail w
  round_good =
      let eq = round_ranks in
      record {
        ranks_size = g.ranks_size;
        masks_size = g.masks_size;
        queue_size = g.queue_size;
        rank = λ k. inl (ap (λ (l : List ℕ). get_or l k 0) eq);
        none = g.none;
        left = g.left;
        wrong = g.wrong;
        small = g.small;
        sound = λ k c h r z a e.
            let stood : get_or old k 0 ≡ 0 = grind (arith, g.rank k, ap (λ (l : List ℕ). get_or l k 0) eq) in
            spoilt_more E (fell old) (fell (ranks_after E (suc (suc m)))) k c more (g.sound k c h r stood a e);
        old = before eq;
        new =
            record {
              node = λ i l h. absurd (omega arith);
              ranked = λ i l h. absurd (omega arith);
              every = λ k h e.
                  let q : rank_of w k ≡ get_or (ranks_after E (suc (suc m))) k 0 = ap (λ (l : List ℕ). get_or l k 0) eq in
                  let l = rank_le E (suc (suc m)) k in
                  absurd (omega arith);
            };
        order = omega arith;
        room = g.room;
      }
    where
      before : w.ranks ≡ ranks_after E (suc (suc m)) → Segment E.nodes (ranks_after E (suc (suc m))) w.queue (suc (suc m)) hi w.tail
      before eq =
          let one = add-one (suc m) in
          record {
            node = g.new.node;
            ranked = λ i l h. rw (← eq) (g.new.ranked i l h ∙ one);
            every = λ k h e. g.new.every k h (ap (λ (l : List ℕ). get_or l k 0) eq ∙ e ∙ sym one);
          }

      more : (j : ℕ) → fell old j ≡ true → fell (ranks_after E (suc (suc m))) j ≡ true
      more j e =
          let p = fell_rank old j e in
          let q : rank_of w j ≡ get_or (ranks_after E (suc (suc m))) j 0 = ap (λ (l : List ℕ). get_or l j 0) round_ranks in
          grind (arith, g.rank j, fell_true (ranks_after E (suc (suc m))) j)

  -- nothing new has fallen
  module _ (quiet : w.tail ≤ hi) where
    same_ranks : w.ranks ≡ old
    same_ranks =
        ext_get_or 0 _ _ (g.ranks_size ∙ sym (length_after E (suc m)))
        (λ k h. let s = g.ranks_size in grind (arith, g.rank k, g.new.every k))

    final_old : final_ranks E ≡ old
    final_old = final_is E m (sym round_ranks ∙ same_ranks)

    pub round_final : w.ranks ≡ final_ranks E
    round_final = same_ranks ∙ sym final_old

    pub round_most : (k : ℕ) → get_or (final_ranks E) k 0 ≤ suc m
    round_most k = rw final_old (rank_le E (suc m) k)

    mask_kept : (k : ℕ) → k < E.nodes → E.right k ≡ true → get_or old k 0 ≡ 0
        → mask_of w k ≡ mask_below (λ c. not (spoilt_by E (fell old) k c)) E.actions
    mask_kept k h r z =
        bits_ext E.actions _ _ (g.small k) (mask_lt _ E.actions)
        (λ c a.
        grind (
          arith,
          bool (spoilt_by E (fell old) k c),
          bool (bit (mask_of w k) c),
          spoilt_out k c h a r,
          g.sound k c h r z a,
          mask_bit (λ d. not (spoilt_by E (fell old) k d)) E.actions c a,
        ))

    mask_is : (k : ℕ) → k < E.nodes → mask_of w k ≡ mask_at E old k
    unfolding mask_at kept_by
    mask_is k h =
        grind (
          arith,
          bool (E.right k),
          bool (fell old k),
          fell_rank old k,
          ap (λ (l : List ℕ). get_or l k 0) same_ranks,
          g.none k,
          g.wrong k,
          mask_kept k h,
          stood_rank old k,
          both_false (E.right k) (not (fell old k)),
          both_true (E.right k) (not (fell old k)),
          both_none (E.right k) (not (fell old k)),
        )

    pub round_masks : w.masks ≡ masks E
    unfolding masks masks_by
    round_masks =
        rw final_old
        (ext_get_or 0 _ _ (g.masks_size ∙ sym (length_tabulate (mask_at E old) 0 E.nodes))
        (λ k h.
        let l : k < E.nodes = (let s = g.masks_size in omega arith) in
        mask_is k l ∙ sym (get_d_tabulate (mask_at E old) E.nodes k 0 l)))
