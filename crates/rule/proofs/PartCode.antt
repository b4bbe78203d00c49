-- The part of a mask that may stand, as the code of src/part.rt makes it. Assumes nothing.
use Prim.Native.Nat.{ℕ, ◌/◌, ◌≤◌, ◌<◌}
use mathlib.Core.Path.{◌≡◌, refl, sym, ◌∙◌, ap}
use mathlib.Core.Bool.{Bool, true, false, not, cond}
use mathlib.Core.List.{List}
use native.Mathlib.Omega.{arith}
use lib.Dec.{leb, ltb}
use lib.ListN.{length, get_or, drop, length-append, length-drop}
use borrow.Author.Rules.{rules}
use borrow.Author.Tests.{le-leb, lt-leb}
use Rattle.theory.specs.Fold.{both, tabulate}
use Rattle.theory.specs.Buffer.{over}
use Rattle.theory.specs.Rounds.{mask_below}
use Rattle.theory.specs.Table.{bit}
use Rattle.theory.proofs.Fold.{both_true, length_tabulate, get_d_tabulate}
use Rattle.theory.proofs.Buffer.{over_front, over_beyond}
use Rattle.theory.proofs.Filling.{filled, filled_none, filled_more, filled_over}
use Rattle.theory.specs.Delay.{on_right}
use Rattle.sheet.specs.Kinds.{controller_at, safe_at}
use Rattle.sheet.specs.code.Arrays.{view_of}
use Rattle.walk.specs.declared.level.Level.{Level}
use Rattle.walk.specs.code.Levels.{arena_of}
use Rattle.walk.specs.code.Nodes.{is_node}
use Rattle.walk.specs.code.Walks.{spoilt_answer}
use Rattle.walk.proofs.NodeLaws.{node_level, node_lt}
use Rattle.region.proofs.MaskLaws.{part_here}
use Rattle.rule.specs.code.Parts.{mark_for, mark_at, marks_after, Marked, stays, part_of, part_in}

-- marks

-- by which the walk counts a node as fallen
pub mark_fallen : (b : Bool) → both (ltb 0 (cond b 1 0)) (leb (cond b 1 0) 1) ≡ b
unfolding both
mark_fallen true = refl
mark_fallen false = refl

module _ (masks marks : List ℕ) where
  pub mark_at_lem : (k : ℕ) {v m : ℕ} → v ≡ mark_for m → m ≡ get_or masks k 0 → v ≡ mark_at masks k
  unfolding mark_at
  mark_at_lem k q e = q ∙ ap mark_for e

  pub marks_done : (k : ℕ) → k ≤ length masks → length masks ≤ k → length masks ≤ length marks → filled (mark_at masks) k marks ≡ marks_after masks marks
  unfolding marks_after
  marks_done k a b r =
      let q : k ≡ length masks = omega arith in
      rw (q, le-leb (length masks) (length marks) r) (filled_over (mark_at masks) marks (length masks))

  pub marks_out : length marks < length masks → marks ≡ marks_after masks marks
  unfolding marks_after
  marks_out h = rw (lt-leb (length masks) (length marks) h)

  -- where there is room, each node has its mark, and what is beyond stays
  module _ (room : length masks ≤ length marks) where
    marks_are : marks_after masks marks ≡ over (tabulate (mark_at masks) 0 (length masks)) marks
    unfolding marks_after
    marks_are = rw (le-leb (length masks) (length marks) room)

    pub after_length : length (marks_after masks marks) ≡ length marks
    unfolding over
    after_length =
        rw (
          marks_are,
          length-append (tabulate (mark_at masks) 0 (length masks)) (drop (length (tabulate (mark_at masks) 0 (length masks))) marks),
          length-drop (length (tabulate (mark_at masks) 0 (length masks))) marks,
          length_tabulate (mark_at masks) 0 (length masks),
        )
        (omega arith)

    pub after_marked : Marked masks (marks_after masks marks)
    after_marked k h =
        rw marks_are
        (over_front (tabulate (mark_at masks) 0 (length masks)) marks k (rw (length_tabulate (mark_at masks) 0 (length masks)) h)
        ∙ get_d_tabulate (mark_at masks) (length masks) k 0 h)

    pub after_beyond : (k : ℕ) → length masks ≤ k → get_or (marks_after masks marks) k 0 ≡ get_or marks k 0
    after_beyond k h =
        rw marks_are
        (over_beyond (tabulate (mark_at masks) 0 (length masks)) marks k (rw (length_tabulate (mark_at masks) 0 (length masks)) h))

pub ruleset marking = (rules, filled_none, filled_more, mark_at_lem, marks_done, marks_out)

-- the node

module _ (p : List ℕ) (g : List (List ℕ)) (u f : List ℕ) (l : Level) (marks : List ℕ) (k : ℕ) where
  -- at a node that exists, of the right side and safe, the part is what region leaves of the mask
  pub part_stands : (m : ℕ) {r : ℕ} {x y z : Bool} → x ≡ is_node (length p) l k → x ≡ true → y ≡ on_right l.odd (controller_at p) (k / l.words) → y ≡ true
      → z ≡ safe_at p (k / l.words) → z ≡ true → r ≡ mask_below (λ c. both (bit m c) (not (spoilt_answer p g u f l marks 1 k c))) l.actions
      → r ≡ part_in p g u f l marks k m
  unfolding part_in part_of stays arena_of view_of
  part_stands m ex tx ey ty ez tz e =
      rw (sym ex ∙ tx, both_true _ _ (sym ey ∙ ty) (sym ez ∙ tz))
      (e ∙ part_here p g u f l 1 marks k (node_level (length p) l k ex tx) (node_lt (length p) l k ex tx) m)
