-- Round 1 (src/first.rt), node by node. Assumes nothing.
use Prim.Native.Nat.{ℕ, ◌+◌, ◌-◌, ◌*◌, ◌/◌, ◌≤◌, ◌<◌}
use mathlib.Core.Path.{◌≡◌, sym, ◌∙◌, ap}
use mathlib.Core.Bool.{Bool, true, false, cond}
use mathlib.Core.Logic.{⊎_elim}
use mathlib.Core.List.{List}
use native.Mathlib.Omega.{arith}
use native.Mathlib.Nat.{suc-mul}
use lib.Arith.{digits_lt, digits_div}
use native.Mathlib.Numerals.{add-one}
use lib.ListN.{length, get_or, set, length-set}
use lib.Seq.{get_or-set_same, get_or-set_other}
use Rattle.theory.proofs.Fold.{not_both, same?, below_cases}
use Rattle.walk.specs.declared.level.Level.{Level}
use Rattle.walk.specs.code.Nodes.{Sized}
use Rattle.sheet.specs.Limits.{most_nodes}
use Rattle.solver.specs.code.Work.{Work, Lent, work}
use Rattle.solver.specs.code.First.{row_falls, row_mask, stand_below, Placed}

-- the nodes that stand, counted

module _ (p : List ℕ) (l : Level) (k t : ℕ) where
  count_fell : row_falls l.odd p (k / l.words) ≡ true → t + stand_below p l k ≡ k → t + 1 + stand_below p l (k + 1) ≡ k + 1
  unfolding stand_below
  count_fell f c = rw (add-one k, f) (omega arith)

  count_stood : row_falls l.odd p (k / l.words) ≡ false → t + stand_below p l k ≡ k → t + stand_below p l (k + 1) ≡ k + 1
  unfolding stand_below
  count_stood f c = rw (add-one k, f) (omega arith)

-- a node of row q
module _ (positions : ℕ) (l : Level) (sized : Sized positions l) (q i : ℕ) (h : q < positions) where
  pub row_node : i < l.words → q * l.words + i < l.nodes
  row_node a = rw sized.all_nodes (digits_lt h a)

module _ (p : List ℕ) (l : Level) (full k : ℕ) (w : Work) (placed : Placed p l full k w) (inside : k < l.nodes) where
  abbrev here : Bool
  here = row_falls l.odd p (k / l.words)

  pub tail_le : w.tail ≤ k
  tail_le = let c = placed.count in omega arith

  -- an entry below k keeps what it was, and entry k is the new one
  entries : (f : ℕ → ℕ) (list : List ℕ) (v : ℕ) → length list ≡ l.nodes → v ≡ f k → ((j : ℕ) → j < k → get_or list j 0 ≡ f j)
      → (j : ℕ) → j < k + 1 → get_or (set list k v) j 0 ≡ f j
  entries f list v n e old j h = grind (arith, same? j k, get_or-set_other list k j v 0, get_or-set_same list k v 0, old j)

  pub place_falls : {r : Bool} {mask : ℕ} → r ≡ here → r ≡ true → mask ≡ row_mask l.odd p full (k / l.words)
      → Placed p l full (k + 1) (work (set w.ranks k 1) (set w.masks k mask) (set w.queue w.tail k) (w.tail + 1))
  place_falls {r} {mask} e t m =
      let f : here ≡ true = sym e ∙ t in
      let h = tail_le in
      let s = placed.queue_size in
      record {
        ranks_size = length-set {A = ℕ} w.ranks k 1 ∙ placed.ranks_size;
        masks_size = length-set {A = ℕ} w.masks k mask ∙ placed.masks_size;
        queue_size = length-set {A = ℕ} w.queue w.tail k ∙ placed.queue_size;
        ranks = entries (λ j. cond (row_falls l.odd p (j / l.words)) 1 0) w.ranks 1 placed.ranks_size (rw f) placed.ranks;
        masks = entries (λ j. row_mask l.odd p full (j / l.words)) w.masks mask placed.masks_size m placed.masks;
        node = λ i a. grind (arith, same? i w.tail, other i, last, placed.node i);
        fallen = λ i a. grind (arith, same? i w.tail, other i, last, placed.fallen i);
        every = λ j a g.
            ⊎_elim
            (λ (b : j < k). let o = placed.every j b g in let i = o.1 in (o.0, (let z : o.0 < w.tail + 1 = omega arith in z), other o.0 o.1 ∙ o.2))
            (λ (b : j ≡ k). (w.tail, (let z : w.tail < w.tail + 1 = omega arith in z), last ∙ sym b))
            (below_cases (rw (add-one k) at a));
        count = counted f;
      }
    where
      other : (i : ℕ) → i < w.tail → get_or (set w.queue w.tail k) i 0 ≡ get_or w.queue i 0
      other i b = get_or-set_other w.queue w.tail i k 0 (λ z. omega arith)

      last : get_or (set w.queue w.tail k) w.tail 0 ≡ k
      last = let h = tail_le in let s = placed.queue_size in get_or-set_same w.queue w.tail k 0 (omega arith)

      counted : here ≡ true → w.tail + 1 + stand_below p l (k + 1) ≡ k + 1
      counted f = let c = placed.count in count_fell p l k w.tail f c

  pub place_stands : {r : Bool} {mask : ℕ} → r ≡ here → r ≡ false → mask ≡ row_mask l.odd p full (k / l.words)
      → Placed p l full (k + 1) (work (set w.ranks k 0) (set w.masks k mask) w.queue w.tail)
  place_stands {r} {mask} e t m =
      let f : here ≡ false = sym e ∙ t in
      record {
        ranks_size = length-set {A = ℕ} w.ranks k 0 ∙ placed.ranks_size;
        masks_size = length-set {A = ℕ} w.masks k mask ∙ placed.masks_size;
        queue_size = placed.queue_size;
        ranks = entries (λ j. cond (row_falls l.odd p (j / l.words)) 1 0) w.ranks 0 placed.ranks_size (rw f) placed.ranks;
        masks = entries (λ j. row_mask l.odd p full (j / l.words)) w.masks mask placed.masks_size m placed.masks;
        node = λ i a. let o = placed.node i a in omega arith;
        fallen = placed.fallen;
        every = λ j a g.
            ⊎_elim
            (λ (b : j < k). placed.every j b g)
            (λ (b : j ≡ k). absurd (not_both (ap (λ (i : ℕ). row_falls l.odd p (i / l.words)) (sym b) ∙ g) f))
            (below_cases (rw (add-one k) at a));
        count = count_stood p l k w.tail f placed.count;
      }

-- a node of row q
module _ {p : List ℕ} {l : Level} {full q k : ℕ} {w : Work} (sized : Sized (length p) l) (h : q < length p) (a : q * l.words ≤ k)
    (b : k < q * l.words + l.words) (placed : Placed p l full k w) where
  row_inside : k < l.nodes
  row_inside =
      let e : q * l.words + (k - q * l.words) ≡ k = omega arith in
      let i = row_node (length p) l sized q (k - q * l.words) h (omega arith) in
      omega arith

  -- what there is room for
  pub row_room : record {
    inside : k < l.nodes;
    few : l.nodes ≤ most_nodes;
    behind : w.tail ≤ k;
    ranks : length w.ranks ≡ l.nodes;
    masks : length w.masks ≡ l.nodes;
    queue : length w.queue ≡ l.nodes;
  }
  row_room =
      record {
        inside = row_inside;
        few = sized.few_nodes;
        behind = tail_le p l full k w placed row_inside;
        ranks = placed.ranks_size;
        masks = placed.masks_size;
        queue = placed.queue_size;
      }

  in_row : k / l.words ≡ q
  in_row =
      let e : k ≡ q * l.words + (k - q * l.words) = omega arith in
      let i : k - q * l.words < l.words = omega arith in
      ap (λ (x : ℕ). x / l.words) e ∙ digits_div q i

  module _ {r : Bool} {mask : ℕ} (e : r ≡ row_falls l.odd p q) (m : mask ≡ row_mask l.odd p full q) where
    pub row_fallen : r ≡ true → Placed p l full (k + 1) (work (set w.ranks k 1) (set w.masks k mask) (set w.queue w.tail k) (w.tail + 1))
    row_fallen t = place_falls p l full k w placed row_inside (rw in_row e) t (rw in_row m)

    pub row_stands : r ≡ false → Placed p l full (k + 1) (work (set w.ranks k 0) (set w.masks k mask) w.queue w.tail)
    row_stands t = place_stands p l full k w placed row_inside (rw in_row e) t (rw in_row m)

pub row_done : {p : List ℕ} {l : Level} {full : ℕ} {w : Work} (k m : ℕ) → k ≤ m → m ≤ k → Placed p l full k w → Placed p l full m w
row_done k m a b placed = let e : k ≡ m = omega arith in rw e at placed

-- the loop over the rows

module _ (p : List ℕ) (l : Level) (full : ℕ) where
  pub rows_start : (w : Work) → Lent w.ranks w.masks w.queue → length w.masks ≡ l.nodes → w.tail ≡ 0 → Placed p l full (0 * l.words) w
  unfolding stand_below
  rows_start w lent b t =
      let z : 0 * l.words ≡ 0 = omega arith in
      rw z
      (record {
        ranks_size = lent.ranks_size ∙ b;
        masks_size = b;
        queue_size = lent.queue_size ∙ b;
        ranks = λ j h. absurd (omega arith);
        masks = λ j h. absurd (omega arith);
        node = λ i h. absurd (omega arith);
        fallen = λ i h. absurd (omega arith);
        every = λ j h e. absurd (omega arith);
        count = omega arith;
      })

  pub rows_again : (q : ℕ) (w : Work) → Placed p l full (q * l.words + l.words) w → Placed p l full ((q + 1) * l.words) w
  rows_again q w placed =
      let s = suc-mul q l.words in
      let e : q * l.words + l.words ≡ (q + 1) * l.words = rw (add-one q) (omega arith) in
      rw e at placed

  pub rows_done : (q : ℕ) (w : Work) → Sized (length p) l → q ≤ length p → length p ≤ q → Placed p l full (q * l.words) w → Placed p l full l.nodes w
  rows_done q w sized a b placed =
      let e : q ≡ length p = omega arith in
      let r : q * l.words ≡ l.nodes = ap (λ (x : ℕ). x * l.words) e ∙ sym sized.all_nodes in
      rw r at placed

pub ruleset placing = (row_room, row_done)

pub ruleset all_placing = (rows_start, rows_again, rows_done)
