-- What holds of the worklist's state while round n + 1 is worked, over any arena, and that marking a spoilt action keeps it.
-- Assumes nothing.
use Prim.Native.Nat.{ℕ, ◌+◌, ◌-◌, ◌^◌, ◌≤◌, ◌<◌}
use mathlib.Core.Path.{◌≡◌, refl, sym, ◌∙◌, ap}
use mathlib.Core.Bool.{true, false, not}
use mathlib.Core.Logic.{◌⊎◌, inl, inr, ⊎_elim}
use mathlib.Core.List.Memᴰ
use mathlib.Core.List.{List, [], ◌∷◌, Memᴰ}
use native.Mathlib.Omega.{arith}
use lib.Pow.{pow_pos}
use lib.ListN.{length, get_or, set, length-set}
use lib.Seq.{get_or-set_same, get_or-set_other}
use borrow.Author.Tests.{eq-eqb, ne_eqb, lt-ltb, not-true}
use Rattle.theory.specs.Fold.{count}
use Rattle.theory.specs.Rounds.{Arena, spoilt_by, fell, ranks_after}
use Rattle.theory.specs.Table.{bit}
use Rattle.theory.proofs.Fold.{bool, not_both, below?, same?, stored, count_less}
use Rattle.theory.proofs.Rounds.{fell_true, fell_false, stood_rank}
use Rattle.theory.proofs.Masks.{zero_bit}
use Rattle.solver.specs.code.Work.{Work, work, fall_to, leave_to, mark_to, marks_to, spoil_all_to}
use Rattle.solver.proofs.BitLaws.{bit_out, bit_other, bit_still, some_mask, there, store_out}

abbrev pub rank_of : Work → ℕ → ℕ
rank_of w k = get_or w.ranks k 0

abbrev pub mask_of : Work → ℕ → ℕ
mask_of w k = get_or w.masks k 0

abbrev pub entry_of : Work → ℕ → ℕ
entry_of w i = get_or w.queue i 0

-- the nodes of rank r are the queue's entries from lo up to hi
pub record Segment (nodes : ℕ) (ranks queue : List ℕ) (r lo hi : ℕ) : Type 0 where
  pub node : (i : ℕ) → lo ≤ i → i < hi → get_or queue i 0 < nodes
  pub ranked : (i : ℕ) → lo ≤ i → i < hi → get_or ranks (get_or queue i 0) 0 ≡ r
  pub every : (k : ℕ) → k < nodes → get_or ranks k 0 ≡ r → (i : ℕ) × (lo ≤ i) × (i < hi) × (get_or queue i 0 ≡ k)

-- the nodes that stand
unfoldable pub standing : List ℕ → ℕ → ℕ
standing ranks nodes = count (λ k. not (fell ranks k)) nodes

-- the rank of node k: as after round n, or k has fallen in round n + 1
pub record Fresh (E : Arena) (n : ℕ) (w : Work) (k : ℕ) : Type 0 where
  pub stood : get_or (ranks_after E n) k 0 ≡ 0
  pub right : E.right k ≡ true
  pub rank : rank_of w k ≡ n + 1

pub record Good (E : Arena) (n lo hi : ℕ) (w : Work) : Type 0 where
  pub ranks_size : length w.ranks ≡ E.nodes
  pub masks_size : length w.masks ≡ E.nodes
  pub queue_size : length w.queue ≡ E.nodes
  pub rank : (k : ℕ) → (rank_of w k ≡ get_or (ranks_after E n) k 0) ⊎ Fresh E n w k
  pub none : (k : ℕ) → 0 < rank_of w k → mask_of w k ≡ 0
  pub left : (k : ℕ) → k < E.nodes → E.right k ≡ true → rank_of w k ≡ 0 → 0 < mask_of w k
  pub wrong : (k : ℕ) → E.right k ≡ false → mask_of w k ≡ 0
  pub small : (k : ℕ) → mask_of w k < 2 ^ E.actions
  pub sound : (k c : ℕ) → k < E.nodes → E.right k ≡ true → get_or (ranks_after E n) k 0 ≡ 0 → c < E.actions
      → bit (mask_of w k) c ≡ false → spoilt_by E (fell (ranks_after E n)) k c ≡ true
  pub old : Segment E.nodes (ranks_after E n) w.queue n lo hi
  pub new : Segment E.nodes w.ranks w.queue (n + 1) hi w.tail
  pub order : hi ≤ w.tail
  pub room : w.tail + standing w.ranks E.nodes ≤ E.nodes

-- bits only go out, and the queue only grows
pub record Went (w w' : Work) : Type 0 where
  pub out : (k c : ℕ) → bit (mask_of w k) c ≡ false → bit (mask_of w' k) c ≡ false
  pub queue : (i : ℕ) → i < w.tail → entry_of w' i ≡ entry_of w i
  pub tail : w.tail ≤ w'.tail
  pub size : length w'.queue ≡ length w.queue

pub went_none : (w : Work) → Went w w
went_none w = record { out = λ k c e. e; queue = λ i h. refl; tail = omega arith; size = refl }

pub went_on : {u v w : Work} → Went u v → Went v w → Went u w
went_on a b =
    let l = a.tail in
    let r = b.tail in
    record {
      out = λ k c e. b.out k c (a.out k c e);
      queue = λ i h. b.queue i (omega arith) ∙ a.queue i h;
      tail = omega arith;
      size = b.size ∙ a.size;
    }

-- one node less stands
fewer : (ranks : List ℕ) (nodes k r : ℕ) → length ranks ≡ nodes → k < nodes → get_or ranks k 0 ≡ 0
    → standing (set ranks k (r + 1)) nodes < standing ranks nodes
unfolding standing
fewer ranks nodes k r size h e =
    ⊎_elim
    (λ (same : (i : ℕ) → i < nodes → not (fell (set ranks k (r + 1)) i) ≡ not (fell ranks i)).
    let q = get_or-set_same ranks k (r + 1) 0 (omega arith) in
    let a = fell_true (set ranks k (r + 1)) k (omega arith) in
    let b = fell_false ranks k e in
    absurd (not_both (ap not b) (sym (same k h) ∙ ap not a)))
    (λ l. l)
    (count_less (λ i. not (fell (set ranks k (r + 1)) i)) (λ i. not (fell ranks i)) nodes stood)
  where
    stood : (i : ℕ) → not (fell (set ranks k (r + 1)) i) ≡ true → not (fell ranks i) ≡ true
    stood i t =
        ⊎_elim
        (λ (s : (i ≡ k) × (get_or (set ranks k (r + 1)) i 0 ≡ r + 1)).
        let z = stood_rank (set ranks k (r + 1)) i (not-true _ t) in
        let q = s.1 in
        absurd (omega arith))
        (λ (s : (i ≡ k → ⊥) × (get_or (set ranks k (r + 1)) i 0 ≡ get_or ranks i 0)).
        ap not (fell_false ranks i (sym s.1 ∙ stood_rank (set ranks k (r + 1)) i (not-true _ t))))
        (stored ranks k (r + 1) i (rw size h))

module _ (E : Arena) (n lo hi : ℕ) where
  abbrev Spoilt : ℕ → ℕ → Type 0
  Spoilt k c = spoilt_by E (fell (ranks_after E n)) k c ≡ true

  -- what a step leaves
  pub record Goes (w w' : Work) : Type 0 where
    pub good : Good E n lo hi w'
    pub went : Went w w'

  pub goes_on : {u v w : Work} → Goes u v → Goes v w → Goes u w
  goes_on a b = record { good = b.good; went = went_on a.went b.went }

  module _ (w : Work) (g : Good E n lo hi w) where
    pub goes_none : Goes w w
    goes_none = record { good = g; went = went_none w }

    -- a node with rank 0 had rank 0 after round n
    stood_then : (k : ℕ) → rank_of w k ≡ 0 → get_or (ranks_after E n) k 0 ≡ 0
    stood_then k z = grind (arith, g.rank k)

    -- a node with a bit is a node of the right side that stands
    mask_node : (k : ℕ) → 0 < mask_of w k → k < E.nodes
    mask_node k m = rw g.masks_size at (there w.masks k m)

    marked_node : (k c : ℕ) → bit (mask_of w k) c ≡ true → k < E.nodes
    marked_node k c e = mask_node k (some_mask (mask_of w k) c e)

    pub marked_right : (k : ℕ) → 0 < mask_of w k → E.right k ≡ true
    marked_right k m = grind (arith, g.wrong k)

    pub marked_stands : (k : ℕ) → 0 < mask_of w k → rank_of w k ≡ 0
    marked_stands k m = grind (arith, g.none k)

    -- a part of the mask goes out, and some is left
    module _ (k rest : ℕ) (h : k < E.nodes) (m : 0 < mask_of w k) (some : 0 < rest) (few : rest < 2 ^ E.actions)
        (less : (c : ℕ) → bit (mask_of w k) c ≡ false → bit rest c ≡ false)
        (bad : (c : ℕ) → c < E.actions → bit (mask_of w k) c ≡ true → bit rest c ≡ false → Spoilt k c) where
      abbrev lower : Work
      lower = work w.ranks (set w.masks k rest) w.queue w.tail

      at : (j : ℕ) → ((j ≡ k) × (mask_of lower j ≡ rest)) ⊎ ((j ≡ k → ⊥) × (mask_of lower j ≡ mask_of w j))
      at j = stored w.masks k rest j (let s = g.masks_size in omega arith)

      lower_good : Good E n lo hi lower
      lower_good =
          record {
            ranks_size = g.ranks_size;
            masks_size = length-set {A = ℕ} w.masks k rest ∙ g.masks_size;
            queue_size = g.queue_size;
            rank = λ j.
                ⊎_elim
                (λ e. inl e)
                (λ (f : Fresh E n w j). inr (record { stood = f.stood; right = f.right; rank = f.rank }))
                (g.rank j);
            none = λ j r. grind (arith, at j, g.none j, marked_stands k m);
            left = λ j l r z. grind (arith, at j, g.left j);
            wrong = λ j r. grind (arith, at j, g.wrong j, marked_right k m);
            small = λ j. grind (arith, at j, g.small j);
            sound = λ j c l r z a e.
                grind (arith, at j, bad c a, g.sound k c h (marked_right k m) (stood_then k (marked_stands k m)) a, g.sound j c l r z a);
            old = g.old;
            new = g.new;
            order = g.order;
            room = g.room;
          }

      pub lower_goes : Goes w lower
      lower_goes =
          record {
            good = lower_good;
            went =
                record {
                  out = store_out w.masks k rest (there w.masks k m) less;
                  queue = λ i l. refl;
                  tail = omega arith;
                  size = refl;
                };
          }

    -- a node falls, all of whose actions are spoilt
    module _ (k : ℕ) (h : k < E.nodes) (m : 0 < mask_of w k) (bad : (c : ℕ) → c < E.actions → Spoilt k c) where
      abbrev fallen : Work
      fallen = work (set w.ranks k (n + 1)) (set w.masks k 0) (set w.queue w.tail k) (w.tail + 1)

      zero_rank : rank_of w k ≡ 0
      zero_rank = marked_stands k m

      one_less : standing (set w.ranks k (n + 1)) E.nodes < standing w.ranks E.nodes
      one_less = fewer w.ranks E.nodes k n g.ranks_size h zero_rank

      inside : w.tail < E.nodes
      inside = let l = one_less in let r = g.room in omega arith

      rank_at_lem : (j : ℕ) → ((j ≡ k) × (rank_of fallen j ≡ n + 1)) ⊎ ((j ≡ k → ⊥) × (rank_of fallen j ≡ rank_of w j))
      rank_at_lem j = stored w.ranks k (n + 1) j (let s = g.ranks_size in omega arith)

      mask_at_lem : (j : ℕ) → ((j ≡ k) × (mask_of fallen j ≡ 0)) ⊎ ((j ≡ k → ⊥) × (mask_of fallen j ≡ mask_of w j))
      mask_at_lem j = stored w.masks k 0 j (let s = g.masks_size in omega arith)

      entry_at : (i : ℕ) → i < w.tail → entry_of fallen i ≡ entry_of w i
      entry_at i l = get_or-set_other w.queue w.tail i k 0 (λ e. omega arith)

      entry_here : entry_of fallen w.tail ≡ k
      entry_here = get_or-set_same w.queue w.tail k 0 (let l = inside in let s = g.queue_size in omega arith)

      new_fallen : Segment E.nodes fallen.ranks fallen.queue (n + 1) hi (w.tail + 1)
      new_fallen =
          record {
            node = λ i l r. grind (arith, below? i w.tail, entry_at i, entry_here, g.new.node i);
            ranked = λ i l r.
                grind (arith, below? i w.tail, entry_at i, entry_here, rank_at_lem (entry_of w i), rank_at_lem k, g.new.ranked i);
            every = λ j l r.
                ⊎_elim
                (λ (t : (j ≡ k) × (rank_of fallen j ≡ n + 1)).
                (w.tail, g.order, (let q : w.tail < w.tail + 1 = omega arith in q), entry_here ∙ sym t.0))
                (λ (t : (j ≡ k → ⊥) × (rank_of fallen j ≡ rank_of w j)).
                let x = g.new.every j l (sym t.1 ∙ r) in
                (x.0, x.1, (let y = x.2 in let q : x.0 < w.tail + 1 = omega arith in q), entry_at x.0 x.2 ∙ x.3))
                (rank_at_lem j);
          }

      old_fallen : Segment E.nodes (ranks_after E n) fallen.queue n lo hi
      old_fallen =
          let o = g.order in
          record {
            node = λ i l r. rw (entry_at i (omega arith)) (g.old.node i l r);
            ranked = λ i l r. rw (entry_at i (omega arith)) (g.old.ranked i l r);
            every = λ j l r.
                let x = g.old.every j l r in
                let y = x.2 in
                (x.0, x.1, x.2, entry_at x.0 (omega arith) ∙ x.3);
          }

      fallen_good : Good E n lo hi fallen
      fallen_good =
          record {
            ranks_size = length-set {A = ℕ} w.ranks k (n + 1) ∙ g.ranks_size;
            masks_size = length-set {A = ℕ} w.masks k 0 ∙ g.masks_size;
            queue_size = length-set {A = ℕ} w.queue w.tail k ∙ g.queue_size;
            rank = λ j.
                ⊎_elim
                (λ (t : (j ≡ k) × (rank_of fallen j ≡ n + 1)).
                inr
                (record {
                  stood = rw t.0 (stood_then k zero_rank);
                  right = rw t.0 (marked_right k m);
                  rank = t.1;
                }))
                (λ (t : (j ≡ k → ⊥) × (rank_of fallen j ≡ rank_of w j)).
                ⊎_elim
                (λ e. inl (t.1 ∙ e))
                (λ (f : Fresh E n w j). inr (record { stood = f.stood; right = f.right; rank = t.1 ∙ f.rank }))
                (g.rank j))
                (rank_at_lem j);
            none = λ j r. grind (arith, mask_at_lem j, rank_at_lem j, g.none j);
            left = λ j l r z. grind (arith, mask_at_lem j, rank_at_lem j, g.left j);
            wrong = λ j r. grind (arith, mask_at_lem j, g.wrong j);
            small = λ j. grind (arith, mask_at_lem j, g.small j, pow_pos E.actions);
            sound = λ j c l r z a e. grind (arith, mask_at_lem j, bad c a, g.sound j c l r z a);
            old = old_fallen;
            new = new_fallen;
            order = let o = g.order in omega arith;
            room = let l = one_less in let r = g.room in omega arith;
          }

      fallen_goes : Goes w fallen
      fallen_goes =
          record {
            good = fallen_good;
            went =
                record {
                  out = store_out w.masks k 0 (there w.masks k m) (λ c z. zero_bit c);
                  queue = λ i l. entry_at i l;
                  tail = omega arith;
                  size = length-set {A = ℕ} w.queue w.tail k;
                };
          }

      fall_is : fall_to n w k ≡ fallen
      unfolding fall_to
      fall_is = rw (lt-ltb w.tail (length w.queue) (let l = inside in let s = g.queue_size in omega arith))

      pub fall_goes : Goes w (fall_to n w k)
      fall_goes = rw fall_is fallen_goes

      pub fall_none : mask_of (fall_to n w k) k ≡ 0
      fall_none = rw fall_is (get_or-set_same w.masks k 0 0 (let s = g.masks_size in omega arith))

    -- action c is spoilt at node k
    module _ (c k : ℕ) (a : c < E.actions) (bad : k < E.nodes → E.right k ≡ true → Spoilt k c) where
      abbrev rest : ℕ
      rest = mask_of w k - 2 ^ c

      module _ (e : bit (mask_of w k) c ≡ true) where
        some : 0 < mask_of w k
        some = some_mask (mask_of w k) c e

        node : k < E.nodes
        node = marked_node k c e

        here : Spoilt k c
        here = bad node (marked_right k some)

        -- an action whose bit is not in what is left
        spoilt_rest : (d : ℕ) → d < E.actions → bit rest d ≡ false → Spoilt k d
        spoilt_rest d l f =
            grind (arith, same? d c, here, g.sound k d node (marked_right k some) (stood_then k (marked_stands k some)) l, bit_other (mask_of w k) c d e)

        leaves : Goes w (leave_to n w k rest) × (bit (mask_of (leave_to n w k rest) k) c ≡ false)
        unfolding leave_to
        leaves =
            ⊎_elim
            (λ (z : rest < 1).
            let q : rest ≡ 0 = omega arith in
            let all : (d : ℕ) → d < E.actions → Spoilt k d =
            λ d l. spoilt_rest d l (ap (λ (x : ℕ). bit x d) q ∙ zero_bit d) in
            rw (eq-eqb rest 0 q)
            (fall_goes k node some all, ap (λ (x : ℕ). bit x c) (fall_none k node some all) ∙ zero_bit c))
            (λ (z : 1 ≤ rest).
            let s = g.masks_size in
            let f = g.small k in
            let l = node in
            rw (ne_eqb rest 0 (λ q. omega arith)) (
              lower_goes k rest node some z (omega arith) (λ d. bit_still (mask_of w k) c d e) (λ d l t f. spoilt_rest d l f),
              ap (λ (x : ℕ). bit x c) (get_or-set_same w.masks k rest 0 (omega arith)) ∙ bit_out (mask_of w k) c e,
            ))
            (below? rest 1)

      pub mark_goes : Goes w (mark_to n c w k) × (bit (mask_of (mark_to n c w k) k) c ≡ false)
      unfolding mark_to
      mark_goes =
          ⊎_elim
          (λ (e : bit (mask_of w k) c ≡ true). rw e (leaves e))
          (λ (e : bit (mask_of w k) c ≡ false). rw e (goes_none, e))
          (bool (bit (mask_of w k) c))

    -- every action is spoilt at node k
    pub spoil_all_goes : (k : ℕ) → (k < E.nodes → E.right k ≡ true → (c : ℕ) → c < E.actions → Spoilt k c)
        → Goes w (spoil_all_to n w k) × (mask_of (spoil_all_to n w k) k ≡ 0)
    unfolding spoil_all_to
    spoil_all_goes k bad =
        ⊎_elim
        (λ (z : mask_of w k < 1). let q : mask_of w k ≡ 0 = omega arith in rw (eq-eqb (mask_of w k) 0 q) (goes_none, q))
        (λ (z : 1 ≤ mask_of w k).
        let node = mask_node k z in
        let all = bad node (marked_right k z) in
        rw (ne_eqb (mask_of w k) 0 (λ q. omega arith)) (fall_goes k node z all, fall_none k node z all))
        (below? (mask_of w k) 1)

  -- action c is spoilt at each of these nodes
  pub marks_goes : (c : ℕ) → c < E.actions → (ks : List ℕ)
      → ((k : ℕ) → Memᴰ k ks → k < E.nodes → E.right k ≡ true → Spoilt k c) → (w : Work) → Good E n lo hi w
      → Goes w (marks_to n c w ks) × ((k : ℕ) → Memᴰ k ks → bit (mask_of (marks_to n c w ks) k) c ≡ false)
  unfolding marks_to
  marks_goes c a [] bad w g = (goes_none w g, λ k m. absurd (Memᴰ.not-nil m))
  marks_goes c a (x ∷ ks) bad w g =
      let one = mark_goes w g c x a (bad x (Memᴰ.head refl)) in
      let more = marks_goes c a ks (λ k m. bad k (Memᴰ.tail m)) (mark_to n c w x) one.0.good in (
        goes_on one.0 more.0,
        λ k m.
            ⊎_elim
            (λ (q : k ≡ x). more.0.went.out k c (ap (λ (y : ℕ). bit (mask_of (mark_to n c w x) y) c) q ∙ one.1))
            (λ (t : Memᴰ k ks). more.1 k t)
            (Memᴰ.cases_cons m),
      )
