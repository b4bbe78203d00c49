-- What the code of src/ does is what the definitions say. Assumes nothing.
use Prim.Native.Nat.{ℕ, ◌+◌, ◌^◌, ◌≤◌, ◌<◌}
use mathlib.Core.Path.{◌≡◌, refl, sym, ◌∙◌, ap, fun_ext}
use mathlib.Core.Bool.{Bool, true, false, not, cond, ◌||◌}
use mathlib.Core.List.{List}
use mathlib.Core.Logic.{◌⊎◌, ⊎_elim}
use native.Mathlib.Omega.{arith}
use lib.Dec.{eqb, leb}
use lib.Pow.{pow_mono}
use lib.ListN.{length, get_or, set, replicate, length-set, length-replicate}
use lib.Seq.{get_or-set_same}
use borrow.Author.Rules.{rules}
use borrow.Author.Tests.{eqb-true, eq-eqb, ne_eqb, lt-ltb, le-ltb, le-leb, lt-leb, not-true, not-false}
use Rattle.theory.specs.Fold.{either}
use Rattle.theory.specs.Rounds.{Arena}
use Rattle.theory.proofs.Buffer.{zeros}
use Rattle.theory.proofs.Fold.{not_both, below?, both_true, both_none, both_false, both_second, both_left, both_right}
use Rattle.arrayvec.specs.ArrayVec.{ArrayVec}
use Rattle.sheet.specs.Limits.{most_actions, most_nodes}
use Rattle.sheet.specs.code.Arrays.{view_of}
use Rattle.walk.specs.declared.level.Level.{Level}
use Rattle.walk.specs.code.Levels.{arena_of}
use Rattle.walk.specs.code.Arenas.{arena_in}
use Rattle.walk.specs.code.Nodes.{Sized, is_sized, is_fitted, is_node}
use Rattle.walk.specs.code.Walks.{fallen_by}
use Rattle.walk.proofs.NodeLaws.{node_tested, tested_sized}
use Rattle.rule.specs.code.Parts.{mark_for, mark_at, marks_after, part_of, part_in}
use Rattle.rule.proofs.PartCode.{mark_fallen, after_marked, after_beyond, after_length}
use Rattle.prune.specs.declared.cut.Pruning.{Pruning}
use Rattle.prune.specs.code.Pruning.{fallen_in, Shown, part_now, cut_at, swept_to, changed_to, Pruned, is_prunable, total, PrunedBy, PrunedLeft}
use Rattle.prune.specs.code.Views.{Same, Left, CutOnce, Goes, Swept, SweptOn}
use Rattle.prune.proofs.CutLaws.{part_lt, cut_none, cut_on, cut_cut, cut_gone, cut_whole, shown_store, swept_next, changed_next, swept_cut, quiet_pruned, cut_total, changed_less}

-- the buffers

pub same_none : (w : Pruning) → Same w w
same_none w = record { arena = refl; masks = refl }

pub same_on : {w w' w'' : Pruning} → Same w w' → Same w' w'' → Same w w''
same_on a b = record { arena = b.arena ∙ a.arena; masks = b.masks ∙ a.masks }

-- one node's mask

module _ (w : Pruning) where
  abbrev E : Arena
  E = arena_in w.arena.now

  abbrev l : Level
  l = w.arena.now.level

  pub nodes_are : l.nodes ≡ E.nodes
  unfolding arena_of view_of
  nodes_are = w.sized.all_nodes

  pub part_byte : (k m : ℕ)
      → part_in w.arena.now.positions.now w.arena.now.grid.now w.arena.now.moves.now w.arena.now.firsts.now l w.marks.now k m < 256
  unfolding part_in arena_of view_of
  part_byte k m = either_way (is_node (length w.arena.now.positions.now) l k)
    where
      either_way : (b : Bool) → cond b (part_of E (fallen_by 1 w.marks.now) k m) 0 < 256
      either_way true =
          let t = part_lt E (fallen_by 1 w.marks.now) k m in
          let b : 2 ^ l.actions ≤ 2 ^ most_actions = pow_mono w.sized.few_actions in
          omega arith
      either_way false = omega arith

  module _ (k m r : ℕ) (h : k < l.nodes) (em : m ≡ get_or w.masks.now k 0)
      (er : r ≡ part_in w.arena.now.positions.now w.arena.now.grid.now w.arena.now.moves.now w.arena.now.firsts.now l w.marks.now k m) where
    part_is : r ≡ part_now E w.masks.now k
    unfolding part_in part_now
    part_is =
        let shown : fallen_by 1 w.marks.now ≡ fallen_in w.masks.now = fun_ext w.shown.same in
        er ∙ rw (node_tested (length w.arena.now.positions.now) l k w.sized h, shown, em)

    pub cut_same : r ≡ get_or w.masks.now k 0 → CutOnce w k w false
    cut_same e =
        record {
          left = cut_whole E w.masks.now k (sym part_is ∙ e);
          any = rw (eq-eqb (get_or w.masks.now k 0) _ refl);
          same = same_none w;
        }

    pub cut_less : {w' : Pruning} → (r ≡ get_or w.masks.now k 0 → ⊥) → Left w k r w' → CutOnce w k w' true
    unfolding cut_at
    cut_less {w'} n left =
        record {
          left = left.masks ∙ ap (set w.masks.now k) part_is;
          any =
              let here : get_or w'.masks.now k 0 ≡ r = rw left.masks (get_or-set_same w.masks.now k r 0 (omega (arith, w.nodes))) in
              rw (here, ne_eqb r (get_or w.masks.now k 0) n);
          same = left.same;
        }

  pub cut_gone_lem : (k : ℕ) → get_or w.masks.now k 0 ≡ 0 → CutOnce w k w false
  cut_gone_lem k e =
      record {
        left = cut_gone E w.masks.now k e;
        any = rw (eq-eqb (get_or w.masks.now k 0) _ refl);
        same = same_none w;
      }

  -- what is left keeps the ghost fields
  module _ (k v m : ℕ) where
    pub left_nodes : length (set w.masks.now k v) ≡ l.nodes
    left_nodes = length-set {A = ℕ} w.masks.now k v ∙ w.nodes

    pub left_room : l.nodes ≤ length (set w.marks.now k m)
    left_room = rw (length-set {A = ℕ} w.marks.now k m) w.marks_room

    pub left_shown : {r : ℕ} → k < l.nodes → r ≡ v → m ≡ mark_for r → Shown (set w.masks.now k v) (set w.marks.now k m)
    left_shown h q e =
        rw (e, q) (shown_store w.masks.now w.marks.now k v w.shown (omega (arith, w.nodes)) (omega (arith, w.nodes, w.marks_room)))

pub ruleset leaving = (rules, left_nodes, left_room, left_shown)

pub ruleset cutting = (rules, part_byte, cut_gone_lem, cut_same, cut_less)

-- nodes that are looked at again

pub goes_none : (w : Pruning) → Goes w w
goes_none w = record { cut = cut_none (arena_in w.arena.now) w.masks.now; same = same_none w }

pub goes_cut : {w w' : Pruning} {b : Bool} (k : ℕ) → k < length w.masks.now → CutOnce w k w' b → Goes w w'
goes_cut {w} k h cut =
    record {
      cut = rw cut.left (cut_cut (arena_in w.arena.now) w.masks.now k (w.nodes ∙ nodes_are w) (omega (arith, w.nodes, nodes_are w)));
      same = cut.same;
    }

pub goes_on : {w w' w'' : Pruning} → Goes w w' → Goes w' w'' → Goes w w''
goes_on {w} a b = record { cut = cut_on (arena_in w.arena.now) a.cut (rw a.same.arena at b.cut); same = same_on a.same b.same }

pub ruleset striking = (rules, goes_none, goes_cut, goes_on)

-- a sweep

either_is : (a b : Bool) {r : Bool} → r ≡ b → (a || r) ≡ either a b
unfolding either
either_is true b e = refl
either_is false b e = e

module _ (w : Pruning) where
  pub sweep_start : Swept w 0 w false
  unfolding swept_to changed_to
  sweep_start = record { left = refl; any = refl; same = same_none w }

  pub sweep_next : {k : ℕ} {v v' : Pruning} {b r : Bool} → Swept w k v b → CutOnce v k v' r → Swept w (k + 1) v' (b || r)
  sweep_next {k} {v} {v'} s c =
      let left : v'.masks.now ≡ cut_at (arena_in w.arena.now) v.masks.now k = rw s.same.arena at c.left in
      record {
        left = swept_next (arena_in w.arena.now) w.masks.now k s.left left;
        any = changed_next (arena_in w.arena.now) w.masks.now k s.left left s.any (either_is _ _ c.any);
        same = same_on s.same c.same;
      }

  -- the sweep began with an empty queue
  pub sweep_end : {k : ℕ} {queue : ArrayVec ℕ} {w' : Pruning} {b : Bool} → k ≤ length w.masks.now → length w.masks.now ≤ k
      → Swept (record w { queue = queue }) k w' b → Swept w w.arena.now.level.nodes w' b
  sweep_end {k} {queue} {w'} {b} l g s =
      let q : k ≡ w.arena.now.level.nodes = omega (arith, w.nodes) in
      let r : Swept w k w' b =
      record { left = s.left; any = s.any; same = record { arena = s.same.arena; masks = s.same.masks } } in
      rw q at r

pub ruleset sweeping = (rules, sweep_start, sweep_next, sweep_end)

-- a sweep with what follows it

module _ {w w' : Pruning} {b : Bool} (swept : Swept w w.arena.now.level.nodes w' b) where
  abbrev here : Arena
  here = arena_in w.arena.now

  size : length w.masks.now ≡ here.nodes
  size = w.nodes ∙ nodes_are w

  left_is : w'.masks.now ≡ swept_to here w.masks.now here.nodes
  left_is = swept.left ∙ ap (swept_to here w.masks.now) (nodes_are w)

  any_is : b ≡ changed_to here w.masks.now here.nodes
  any_is = swept.any ∙ ap (changed_to here w.masks.now) (nodes_are w)

  sweep_goes : Goes w w'
  sweep_goes =
      record { cut = rw left_is (swept_cut here w.masks.now size here.nodes (omega arith)); same = swept.same }

  sweep_less : not b ≡ false → total w'.masks.now < total w.masks.now
  sweep_less e = rw left_is (changed_less here w.masks.now size here.nodes (omega arith) (sym any_is ∙ not-false b e))

  pub sweep_quiet : not b ≡ true → SweptOn w w' false
  sweep_quiet e =
      let q = quiet_pruned here w.masks.now size refl (sym any_is ∙ not-true b e) in
      record { goes = sweep_goes; less = λ t. absurd (not_both t refl); over = λ t. rw (left_is, q.0) q.1 }

  pub sweep_many : not b ≡ false → SweptOn w w' true
  sweep_many e = record { goes = sweep_goes; less = λ t. sweep_less e; over = λ t. absurd (not_both refl t) }

  pub sweep_drained : {v : Pruning} → not b ≡ false → Goes w' v → SweptOn w v true
  sweep_drained e goes =
      record {
        goes = goes_on sweep_goes goes;
        less = λ t. omega (arith, sweep_less e, cut_total (arena_in w'.arena.now) goes.cut);
        over = λ t. absurd (not_both refl t);
      }

pub ruleset sweeping_on = (rules, sweep_quiet, sweep_many, sweep_drained)

-- the buffers at the start

-- r is what the code's test says
module _ (positions entries : ℕ) (l : Level) {r : Bool} (e : r ≡ is_fitted positions l entries) (t : r ≡ true) where
  pub start_sized : Sized positions l
  unfolding is_fitted
  start_sized = tested_sized positions l (both_left _ _ (sym e ∙ t))

  pub start_nodes : entries ≡ l.nodes
  unfolding is_fitted
  start_nodes = eqb-true entries l.nodes (both_right (is_sized positions l) _ (sym e ∙ t))

module _ (positions : ℕ) (l : Level) (masks marks : List ℕ) {r : Bool} (e : r ≡ is_fitted positions l (length masks)) (t : r ≡ true)
    (after : marks ≡ marks_after masks (replicate most_nodes 0)) where
  abbrev blank : List ℕ
  blank = replicate most_nodes 0

  fits : length masks ≤ length blank
  fits =
      let sized = start_sized positions (length masks) l e t in
      omega (arith, length-replicate {A = ℕ} most_nodes 0, start_nodes positions (length masks) l e t, sized.few_nodes)

  pub start_room : l.nodes ≤ length marks
  start_room = rw after (omega (arith, fits, start_nodes positions (length masks) l e t, after_length masks blank fits))

  -- every mark shows its node's mask
  pub start_shown : Shown masks marks
  unfolding fallen_by fallen_in mark_at mark_for
  start_shown =
      record {
        same = λ k.
            rw after
            (⊎_elim
            (λ (h : k < length masks).
            rw (after_marked masks blank fits k h)
            (mark_fallen (eqb (get_or masks k 0) 0) ∙ sym (both_second _ _ (lt-ltb k (length masks) h))))
            (λ (h : length masks ≤ k).
            rw (after_beyond masks blank fits k h, zeros most_nodes k)
            (both_none _ _ refl ∙ sym (both_none _ _ (le-ltb k (length masks) h))))
            (below? k (length masks)));
      }

-- any level and masks

module _ (p : List ℕ) (g : List (List ℕ)) (u f : List ℕ) (l : Level) (masks : List ℕ) where
  -- by what the test says
  pub left_alone : {r : Bool} → r ≡ is_fitted (length p) l (length masks) → (r ≡ false) ⊎ ((r ≡ true) × (l.actions < 1))
      → PrunedLeft p g u f l masks masks
  unfolding PrunedBy is_prunable
  left_alone {r} e c =
      ⊎_elim
      (λ (n : r ≡ false). rw (both_none _ (leb 1 l.actions) (sym e ∙ n)) refl)
      (λ ((t, h) : (r ≡ true) × (l.actions < 1)). rw (both_false (is_fitted (length p) l (length masks)) _ (lt-leb 1 l.actions h)) refl)
      c

  pub left_pruned : {r : Bool} {after : List ℕ} → r ≡ is_fitted (length p) l (length masks) → r ≡ true → 1 ≤ l.actions
      → Pruned (arena_of p g u f l) masks after → PrunedLeft p g u f l masks after
  unfolding PrunedBy is_prunable
  left_pruned e t a x = rw (both_true _ _ (sym e ∙ t) (le-leb 1 l.actions a)) x

pub ruleset pruning = (rules, left_alone, left_pruned)
