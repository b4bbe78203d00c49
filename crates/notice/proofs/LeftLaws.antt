-- What a notice leaves of a table, as the code of src/masks.rt and src/flags.rt works it out. Assumes nothing.
use Prim.Native.Nat.{ℕ, ◌≤◌, ◌<◌}
use mathlib.Core.Path.{◌≡◌, refl, sym, ◌∙◌, ap}
use mathlib.Core.Bool.{true}
use mathlib.Core.List.{List, [], ◌++◌}
use native.Mathlib.Omega.{arith}
use lib.Dec.{eqb}
use lib.ListN.{length, get_or, take, replicate, length-replicate, length-take}
use lib.Seq.{take-append_seam}
use borrow.Author.Rules.{rules}
use borrow.Author.Tests.{le-leb, lt-ltb}
use Rattle.theory.specs.Answer.{accepted}
use Rattle.theory.specs.Buffer.{over}
use Rattle.theory.specs.Game.{Game, Legal}
use Rattle.theory.specs.Rounds.{Arena}
use Rattle.theory.specs.Delay.{arena, words}
use Rattle.theory.specs.Closing.{close, post, SizedMasks, StandingMasks}
use Rattle.theory.proofs.Buffer.{over_first, over_room}
use Rattle.theory.proofs.Fold.{both_true, both_second}
use Rattle.theory.proofs.Tables.{unspoilt_too}
use Rattle.theory.proofs.Closing.{close_legal}
use Rattle.theory.proofs.Within.{largest_masks}
use Rattle.sheet.specs.Form.{part_at}
use Rattle.sheet.specs.Limits.{most_positions, most_nodes}
use Rattle.sheet.specs.Bodies.{delay_of}
use Rattle.sheet.specs.SheetGame.{game_of}
use Rattle.sheet.specs.code.Arrays.{firsts_of, view_of, bodies_game}
use Rattle.reader.specs.Reading.{read_answer}
use Rattle.reader.specs.code.Laid.{grid_at}
use Rattle.reader.specs.declared.reading.Layout.{Layout}
use Rattle.std.proofs.Common.{Ok}
use Rattle.reader.proofs.Accepted.{carries, few_nodes, arena_nodes}
use Rattle.reader.proofs.Legality.{legal_game}
use Rattle.walk.specs.declared.level.Level.{Level}
use Rattle.walk.specs.code.Levels.{level_to, arena_of}
use Rattle.walk.specs.code.Nodes.{Sized}
use Rattle.walk.proofs.LevelLaws.{arena_is}
use Rattle.walk.proofs.NodeLaws.{fitted}
use Rattle.region.proofs.ReadLaws.{room_read, game_read, is_level, sized_read}
use Rattle.judge.specs.code.Judgeable.{table_with}
use Rattle.prune.specs.code.Pruning.{fallen_in, Standing, is_prunable, PrunedBy, Pruned}
use Rattle.prune.proofs.CutLaws.{pruned_standing, pruned_sized}
use Rattle.notice.specs.code.Closed.{closed_body}
use Rattle.notice.specs.code.Left.{PrunedIn, left_of}
use Rattle.notice.proofs.CloseLaws.{body_length, view_closed}

-- the masks: pruned over the arrays of a sheet in which the notice's positions are closed

module _ (s : List ℕ) (l : Layout) (reads : read_answer s ≡ accepted l) (ps : List ℕ) where
  abbrev P : List ℕ
  P = part_at s l.positions

  abbrev G : Game
  G = game_of s

  abbrev d : ℕ
  d = delay_of s

  few_here : length P ≤ most_positions
  few_here = (room_read s (Ok l) (sym reads) l refl P refl).few_positions

  pub closed_room : {p : List ℕ} → p ≡ P → length p ≤ length (replicate {A = ℕ} most_positions 0)
  closed_room e = rw e (omega (arith, few_here, length-replicate {A = ℕ} most_positions 0))

  module _ (n : ℕ) (p closed : List ℕ) (ep : p ≡ P) (en : n ≡ length p) (ec : closed ≡ over (closed_body p ps) (replicate most_positions 0)) where
    closed_front : take n closed ≡ closed_body P ps
    closed_front =
        rw (ec, over_first (closed_body p ps) (replicate most_positions 0) n (en ∙ sym (body_length p ps))) (ap (λ x. closed_body x ps) ep)

    pub closed_inside : n ≤ length closed
    closed_inside = rw (ec, en, ← (body_length p ps)) (over_room (closed_body p ps) (replicate most_positions 0))

    pub closed_count : n ≡ length (take n closed)
    closed_count = en ∙ ap length ep ∙ sym (ap length closed_front ∙ body_length P ps)

    pub closed_pruned : (before after : List ℕ) → PrunedIn s l (take n closed) before after → PrunedIn s l (closed_body P ps) before after
    closed_pruned before after x = rw closed_front at x

  -- the arena of the closed body
  abbrev level : Level
  level = level_to (length (closed_body P ps)) l.start l.actions l.delay

  abbrev shut : Arena
  shut = arena_of (closed_body P ps) (grid_at s l) (part_at s l.moves) (firsts_of (part_at s l.moves)) level

  sized_shut : Sized (length (closed_body P ps)) level
  sized_shut = rw (body_length P ps) (sized_read s (Ok l) (sym reads) l refl P refl _ refl)

  game_shut : view_of (closed_body P ps) (grid_at s l) (part_at s l.moves) (firsts_of (part_at s l.moves)) l.start l.actions
      ≡ close G ps
  unfolding bodies_game
  game_shut =
      view_closed P ps _ _ _ l.start l.actions
      ∙ ap (λ H. close H ps) (game_read s (Ok l) (sym reads) l refl P refl (grid_at s l) (part_at s l.moves) refl refl)

  arena_shut : shut ≡ arena (close G ps) d
  arena_shut =
      ap (arena_of (closed_body P ps) _ _ _)
      (rw (body_length P ps) (is_level s (Ok l) (sym reads) l refl P refl _ refl))
      ∙ arena_is (closed_body P ps) _ _ _ l.start l.actions l.delay
      ∙ rw (game_shut, (carries s l reads).delay)

  legal : Legal (close G ps)
  legal = close_legal G ps (legal_game s l reads)

  -- what has fallen, by two readings that agree at the nodes
  fallen_same : (m : List ℕ) → length m ≡ (arena (close G ps) d).nodes → (k : ℕ) → k < (arena (close G ps) d).nodes
      → fallen_in m k ≡ eqb (get_or m k 0) 0
  unfolding fallen_in
  fallen_same m e k h = both_second _ _ (lt-ltb k (length m) (omega arith))

  nodes_shut : level.nodes ≡ (arena (close G ps) d).nodes
  unfolding arena_of view_of
  nodes_shut = sized_shut.all_nodes ∙ ap (λ (E : Arena). E.nodes) arena_shut

  nodes_open : (arena (close G ps) d).nodes ≡ (arena G d).nodes
  unfolding arena close words
  nodes_open = refl

  -- the rule for what stands, by both
  stands_masks : (m : List ℕ) → length m ≡ (arena (close G ps) d).nodes → Standing (arena (close G ps) d) m → StandingMasks (arena (close G ps) d) m
  stands_masks m e st =
      record {
        right = st.right;
        safe = st.safe;
        unspoilt = λ k c h l b. unspoilt_too (close G ps) legal d (fallen_in m) (λ j. eqb (get_or m j 0) 0) (fallen_same m e) k c (st.unspoilt k c h l b);
      }

  masks_stand : (m : List ℕ) → length m ≡ (arena (close G ps) d).nodes → StandingMasks (arena (close G ps) d) m → Standing (arena (close G ps) d) m
  masks_stand m e st =
      record {
        right = st.right;
        safe = st.safe;
        unspoilt =
            λ k c h l b.
            unspoilt_too (close G ps) legal d (λ j. eqb (get_or m j 0) 0) (fallen_in m) (λ j i. sym (fallen_same m e j i)) k c (st.unspoilt k c h l b);
      }

  module _ (masks : List ℕ) (sized : SizedMasks (arena G d) masks) where
    count_is : length masks ≡ (arena (close G ps) d).nodes
    count_is = sized.count ∙ sym nodes_open

    prunable : is_prunable (length (closed_body P ps)) level (length masks) ≡ true
    unfolding is_prunable
    prunable =
        both_true _ _ (fitted (length (closed_body P ps)) level (length masks) sized_shut (count_is ∙ sym nodes_shut))
        (le-leb 1 l.actions (room_read s (Ok l) (sym reads) l refl P refl).some_action)

    pruned_is : (t : List ℕ) → PrunedIn s l (closed_body P ps) masks t → Pruned (arena (close G ps) d) masks t
    unfolding PrunedBy
    pruned_is t x = rw (← arena_shut) (rw prunable at x)

    pub left_is : (t : List ℕ) → PrunedIn s l (closed_body P ps) masks t → t ≡ (left_of s ps [] masks).masks
    unfolding post
    left_is t x =
        let pr = pruned_is t x in
        let sz = pruned_sized (arena (close G ps) d) masks t pr count_is in
        largest_masks (close G ps) legal d (table_with [] masks) t sz
        (stands_masks t sz.count (pruned_standing (arena (close G ps) d) masks t pr count_is))
        pr.cut.below
        (λ m i st b. pr.cut.holds m i (masks_stand m i.count st) b)

    -- in a buffer with room: they are copied to its front and pruned there
    module _ (buffer : List ℕ) (room : most_nodes ≤ length buffer) where
      pub copy_inside : length masks ≤ length buffer
      copy_inside = omega (arith, sized.count, arena_nodes s d, few_nodes s l reads)

      pub copy_count : length (take (length masks) buffer) ≡ length masks
      copy_count = let h = copy_inside in rw length-take (omega arith)

    pub copy_left : (copied t rest : List ℕ) → copied ≡ masks → length t ≡ length copied → PrunedIn s l (closed_body P ps) copied t
        → take (length masks) (t ++ rest) ≡ (left_of s ps [] masks).masks
    copy_left copied t rest c e x =
        let q : length masks ≡ length t = sym (e ∙ ap length c) in
        rw q (take-append_seam t rest) ∙ left_is t (rw c at x)

pub ruleset closing_arrays = (rules, closed_room, closed_inside, closed_count, closed_pruned)

pub ruleset leaving_masks = (rules, copy_inside, copy_count, copy_left)
