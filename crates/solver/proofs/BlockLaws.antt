-- Blocked nodes (specs/Block.antt) come in rows with the same position and oldest action; spoiling them marks every absent outcome.
-- Assumes nothing.
use Prim.Native.Nat.{ℕ, zero, suc, ◌+◌, ◌-◌, ◌*◌, ◌/◌, ◌%◌, ◌≤◌, ◌<◌}
use mathlib.Core.Path.{◌≡◌, refl, sym, ◌∙◌, ap}
use mathlib.Core.Bool.{Bool, true, false, not}
use mathlib.Core.Logic.{⊎_elim}
use mathlib.Core.List.{List, [], ◌∷◌, map, Memᴰ}
use native.Mathlib.Omega.{arith}
use native.Mathlib.Nat.{mod-lt, div-add-mod', div-lt_iff_lt-mul, mul_comm, mul_assoc, add-mul}
use lib.Arith.{digits_div, digits_mod, digits_lt}
use lib.ListN.{get_or}
use Rattle.theory.specs.Fold.{any_of}
use Rattle.theory.specs.Game.{Target, absent, to, Game}
use Rattle.theory.specs.Rounds.{Arena, bad, spoilt_by, fell, ranks_after}
use Rattle.theory.specs.Delay.{on_right, with_word, moved_to, played_to, outcomes, step, arena_by}
use Rattle.theory.specs.Table.{bit}
use Rattle.theory.proofs.Fold.{bool, not_both, same?, below?, both_true, both_right, any_of_some, any_of_holds, any_of_fails}
use Rattle.theory.proofs.Turns.{absent_not_to}
use Rattle.theory.proofs.Masks.{zero_bit}
use Rattle.solver.specs.code.Work.{Work, steps_to, spoil_all_to, spoil_row_to}
use Rattle.solver.specs.code.Block.{blocked_at, no_way, block_to, blocks_to}
use Rattle.solver.proofs.StateLaws.{rank_of, mask_of, Good, Goes, goes_none, goes_on, spoil_all_goes}
use Rattle.solver.proofs.RoundLaws.{Marked}
use Rattle.solver.proofs.BeforeLaws.{step_at, bad_absent, rest_below}
use Rattle.solver.proofs.StartLaws.{first_rank_lem}

-- every action spoilt at so many nodes, from k on
module _ (E : Arena) (n lo hi : ℕ) where
  spoil_row_goes : (count k : ℕ) (w : Work) → Good E n lo hi w
      → ((j : ℕ) → k ≤ j → j < k + count → E.right j ≡ true → (c : ℕ) → c < E.actions → spoilt_by E (fell (ranks_after E n)) j c ≡ true)
      → Goes E n lo hi w (spoil_row_to n w k count) × ((j c : ℕ) → k ≤ j → j < k + count → bit (mask_of (spoil_row_to n w k count) j) c ≡ false)
  unfolding steps_to
  spoil_row_goes zero k w g bad = (goes_none E n lo hi w g, λ j c a b. absurd (omega arith))
  spoil_row_goes (suc count) k w g bad =
      let one = spoil_all_goes E n lo hi w g k (λ h r. bad k (omega arith) (omega arith) r) in
      let more = spoil_row_goes count (k + 1) (spoil_all_to n w k) one.0.good (λ j a b r. bad j (omega arith) (omega arith) r) in (
        goes_on E n lo hi one.0 more.0,
        λ j c a b.
            ⊎_elim
            (λ (e : j ≡ k).
            more.0.went.out j c (ap (λ (x : ℕ). bit (mask_of (spoil_all_to n w k) x) c) e ∙ ap (λ (x : ℕ). bit x c) one.1 ∙ zero_bit c))
            (λ (e : j ≡ k → ⊥).
            let u : k + 1 ≤ j = omega arith in
            let v : j < k + 1 + count = omega arith in
            more.1 j c u v)
            (same? j k),
      )

-- an action is spoilt before anything has fallen exactly if an outcome is absent
module _ (E : Arena) (k c : ℕ) where
  none_absent : spoilt_by E (λ j. false) k c ≡ true → Memᴰ absent (E.step k c)
  unfolding spoilt_by bad
  none_absent e = let s = any_of_some (bad (λ j. false)) (E.step k c) e in cases s.0 s.1 s.2
    where
      cases : (o : Target) → Memᴰ o (E.step k c) → bad (λ j. false) o ≡ true → Memᴰ absent (E.step k c)
      cases absent i h = i
      cases (to j) i h = absurd (not_both h refl)

  absent_spoils : (fallen : ℕ → Bool) → Memᴰ absent (E.step k c) → spoilt_by E fallen k c ≡ true
  unfolding spoilt_by
  absent_spoils fallen i = any_of_holds (bad fallen) i (bad_absent fallen)

-- even delays: by the oldest action's target
none_bad : (j : ℕ) → bad (λ i. false) (to j) ≡ false
unfolding bad
none_bad j = refl

pub played_none : (G : Game) (m v : ℕ) (o : Target) → any_of (bad (λ j. false)) (played_to G m v o) ≡ no_way G.safe o
unfolding played_to no_way
played_none G m v absent = any_of_holds (bad (λ j. false)) (mathlib.Core.List.Memᴰ.head refl) (bad_absent (λ j. false))
played_none G m v (to t) =
    ⊎_elim
    (λ (s : G.safe t ≡ true).
    rw s
    (any_of_fails (bad (λ j. false)) (map (λ r. to (r * m + v)) (G.moves t))
    (λ o i. let x = mathlib.Core.List.Memᴰ.of_map (λ r. to (r * m + v)) (G.moves t) i in ap (bad (λ j. false)) (sym x.2) ∙ none_bad _)))
    (λ (s : G.safe t ≡ false). rw s (any_of_holds (bad (λ j. false)) (mathlib.Core.List.Memᴰ.head refl) (bad_absent (λ j. false))))
    (bool (G.safe t))

-- an absent outcome does not depend on the younger actions

module _ (G : Game) (m : ℕ) where
  played_same : (v w : ℕ) (o : Target) → Memᴰ absent (played_to G m v o) → Memᴰ absent (played_to G m w o)
  unfolding played_to
  played_same v w absent i = i
  played_same v w (to t) i =
      ⊎_elim
      (λ (s : G.safe t ≡ true).
      let x = mathlib.Core.List.Memᴰ.of_map (λ r. to (r * m + v)) (G.moves t) (rw s at i) in
      absurd (absent_not_to (sym x.2)))
      (λ (s : G.safe t ≡ false). rw s (mathlib.Core.List.Memᴰ.head refl))
      (bool (G.safe t))

  with_same : (v w : ℕ) (o : Target) → with_word m v o ≡ absent → with_word m w o ≡ absent
  unfolding with_word
  with_same v w absent e = refl
  with_same v w (to q) e = absurd (absent_not_to (sym e))

  moved_same : (h v w r : ℕ) → moved_to G m h v r ≡ absent → moved_to G m h w r ≡ absent
  unfolding moved_to
  moved_same h v w r e =
      ⊎_elim
      (λ (s : G.safe r ≡ true). rw s (with_same v w (G.target r h) (rw s at e)))
      (λ (s : G.safe r ≡ false). rw s)
      (bool (G.safe r))

  absent_same : (odd : Bool) (q h v w : ℕ) → v < m → w < m → Memᴰ absent (outcomes odd G m q (h * m + v))
      → Memᴰ absent (outcomes odd G m q (h * m + w))
  unfolding outcomes
  absent_same true q h v w a b i =
      let x = mathlib.Core.List.Memᴰ.of_map (moved_to G m h v) (G.moves q) (rw (digits_div h a, digits_mod h a) at i) in
      rw (digits_div h b, digits_mod h b) (mathlib.Core.List.Memᴰ.cast (sym (moved_same h v w x.0 x.2)) (mathlib.Core.List.Memᴰ.map (moved_to G m h w) x.1))
  absent_same false q h v w a b i =
      rw (digits_div h b, digits_mod h b) (played_same v w (G.target q h) (rw (digits_div h a, digits_mod h a) at i))

-- rows of nodes with the same position and oldest action
module _ (G : Game) (odd : Bool) (m younger : ℕ) (some : 0 < G.actions) (someY : 0 < younger) (whole : m ≡ younger * G.actions) where
  abbrev A : ℕ
  A = G.actions

  abbrev E : Arena
  E = arena_by odd G m

  -- node k of row b
  row_parts : (b y : ℕ) → b * younger + y ≡ (b / A) * m + ((b % A) * younger + y)
  row_parts b y =
      let d = div-add-mod' b A in
      let e = add-mul ((b / A) * A) (b % A) younger in
      let f = mul_assoc (b / A) A younger in
      let c = whole ∙ mul_comm younger A in
      let g : ((b / A) * A + b % A) * younger ≡ b * younger = ap (λ (x : ℕ). x * younger) d in
      let i : (b / A) * m ≡ (b / A) * (A * younger) = ap (λ (x : ℕ). (b / A) * x) c in
      omega arith

  module _ (b y : ℕ) (l : y < younger) where
    oldest_lt : b % A < A
    oldest_lt = mod-lt b some

    pub row_position : (b * younger + y) / m ≡ b / A
    row_position = ap (λ (x : ℕ). x / m) (row_parts b y) ∙ digits_div (b / A) word_lt
      where
        word_lt : (b % A) * younger + y < m
        word_lt = let q = whole ∙ mul_comm younger A in rw q (digits_lt oldest_lt l)

    pub row_step : (c : ℕ) → step odd G m (b * younger + y) c ≡ outcomes odd G m (b / A) ((b % A) * m + (y * A + c))
    row_step c =
        ap (λ (x : ℕ). step odd G m x c) (row_parts b y) ∙ step_at G m younger some someY whole odd (b / A) (b % A) y c oldest_lt l

  pub even_outcomes : (q h : ℕ) → outcomes false G m q (h * m + (0 * A + 0)) ≡ played_to G m (0 * A + 0) (G.target q h)
  unfolding outcomes
  even_outcomes q h = let l = rest_below A younger m some someY whole 0 0 someY some in rw (digits_div h l, digits_mod h l)

  pub first_node : (b : ℕ) → b * younger + 0 ≡ b * younger
  first_node b = omega arith

  row_absent : (b y c z d : ℕ) → y < younger → c < A → z < younger → d < A
      → Memᴰ absent (step odd G m (b * younger + y) c) → Memᴰ absent (step odd G m (b * younger + z) d)
  row_absent b y c z d hy hc hz hd i =
      rw (row_step b z hz d)
      (absent_same G m odd (b / A) (b % A) (y * A + c) (z * A + d) (rest_below A younger m some someY whole y c hy hc)
      (rest_below A younger m some someY whole z d hz hd) (rw (row_step b y hy c) at i))

  -- a blocked row is spoilt by whatever has fallen
  pub row_spoilt : (b : ℕ) → blocked_at E (b * younger) ≡ true → (y c : ℕ) → y < younger → c < A → (fallen : ℕ → Bool)
      → spoilt_by E fallen (b * younger + y) c ≡ true
  unfolding blocked_at
  row_spoilt b e y c hy hc fallen =
      let s = both_right _ _ (both_right _ _ e) in
      let i : Memᴰ absent (step odd G m (b * younger + 0) 0) = rw (first_node b) (none_absent E (b * younger) 0 s) in
      absent_spoils E (b * younger + y) c fallen (row_absent b 0 0 y c someY some hy hc i)

  -- where the first node is not blocked, a node of the row with an absent outcome is unsafe
  pub row_unsafe : (b : ℕ) → blocked_at E (b * younger) ≡ false → (y c : ℕ) → y < younger → c < A → E.right (b * younger + y) ≡ true
      → Memᴰ absent (step odd G m (b * younger + y) c) → E.safe (b * younger + y) ≡ false
  unfolding blocked_at
  row_unsafe b e y c hy hc r i =
      ⊎_elim
      (λ (s : G.safe ((b * younger + y) / m) ≡ true).
      let j : Memᴰ absent (step odd G m (b * younger) 0) = rw (first_node b) at (row_absent b y c 0 0 hy hc someY some i) in
      let place : (b * younger + y) / m ≡ b * younger / m =
      row_position b y hy ∙ sym (row_position b 0 someY) ∙ ap (λ (x : ℕ). x / m) (first_node b) in
      let right : E.right (b * younger) ≡ true = ap (on_right odd G.controller) (sym place) ∙ r in
      let safe : E.safe (b * younger) ≡ true = ap G.safe (sym place) ∙ s in
      absurd (not_both (both_true _ _ right (both_true _ _ safe (absent_spoils E (b * younger) 0 (λ j. false) j))) e))
      (λ s. s)
      (bool (G.safe ((b * younger + y) / m)))

  -- nodes of the rows below b with an absent outcome are marked
  pub record RowsMarked (b : ℕ) (w : Work) : Type 0 where
    pub out : (k c : ℕ) → k < E.nodes → k / younger < b → c < A → E.right k ≡ true → Memᴰ absent (step odd G m k c) → bit (mask_of w k) c ≡ false

  -- unsafe nodes have no bit
  unsafe_none : (hi : ℕ) (w : Work) → Good E 1 0 hi w → (k c : ℕ) → k < E.nodes → E.right k ≡ true → E.safe k ≡ false → bit (mask_of w k) c ≡ false
  unsafe_none hi w g k c h r s =
      let one : get_or (ranks_after E 1) k 0 ≡ 1 = first_rank_lem E k h ∙ rw (both_true (E.right k) (not (E.safe k)) r (ap not s)) in
      let fell-now : 0 < rank_of w k = grind (arith, g.rank k) in
      ap (λ (x : ℕ). bit x c) (g.none k fell-now) ∙ zero_bit c

  -- the loop over the rows

  pub rows_none : (w : Work) → RowsMarked 0 w
  rows_none w = record { out = λ k c h b a r i. absurd (omega arith) }

  module _ (hi b : ℕ) (w : Work) (g : Good E 1 0 hi w) (rows : RowsMarked b w) where
    pub rows_pass : {t : Bool} → t ≡ blocked_at E (b * younger) → t ≡ false → RowsMarked (b + 1) w
    rows_pass t f =
        record {
          out = λ k c h l a r i.
              ⊎_elim
              (λ (s : k / younger < b). rows.out k c h s a r i)
              (λ (s : b ≤ k / younger).
              let e : k ≡ b * younger + k % younger = at_row k (omega arith) in
              unsafe_none hi w g k c h r
              (rw (sym e) at (row_unsafe b (sym t ∙ f) (k % younger) c (mod-lt k someY) a (rw (sym e) r) (rw (sym e) i))))
              (below? (k / younger) b);
        }
      where
        at_row : (k : ℕ) → k / younger ≡ b → k ≡ b * younger + k % younger
        at_row k q = sym (div-add-mod' k younger) ∙ ap (λ (x : ℕ). x * younger + k % younger) q

    row_goes : blocked_at E (b * younger) ≡ true
        → Goes E 1 0 hi w (spoil_row_to 1 w (b * younger) younger)
        × ((j c : ℕ) → b * younger ≤ j → j < b * younger + younger → bit (mask_of (spoil_row_to 1 w (b * younger) younger) j) c ≡ false)
    row_goes e =
        spoil_row_goes E 1 0 hi younger (b * younger) w g
        (λ j l h r c a.
        let y : b * younger + (j - b * younger) ≡ j = omega arith in
        rw y at (row_spoilt b e (j - b * younger) c (omega arith) a (fell (ranks_after E 1))))

    module _ {t : Bool} {v : Work} (is : t ≡ blocked_at E (b * younger)) (true-is : t ≡ true) (e : v ≡ spoil_row_to 1 w (b * younger) younger) where
      pub rows_good : Good E 1 0 hi v
      rows_good = rw e (row_goes (sym is ∙ true-is)).0.good

      pub rows_spoil : RowsMarked (b + 1) v
      rows_spoil =
          rw e
          (record {
            out = λ k c h l a r i.
                let d = row_goes (sym is ∙ true-is) in
                let m = mod-lt k someY in
                let e = div-add-mod' k younger in
                ⊎_elim
                (λ (s : k / younger < b). d.0.went.out k c (rows.out k c h s a r i))
                (λ (s : b ≤ k / younger).
                let q : k / younger * younger ≡ b * younger = ap (λ (x : ℕ). x * younger) (let z : k / younger ≡ b = omega arith in z) in
                d.1 k c (omega arith) (omega arith))
                (below? (k / younger) b);
          })

  rows_all : (b : ℕ) (w : Work) → G.positions * A ≤ b → RowsMarked b w → Marked E w absent
  rows_all b w h rows =
      record {
        out = λ k c l a r i.
            let q : G.positions * m ≡ G.positions * A * younger =
            ap (λ (x : ℕ). G.positions * x) (whole ∙ mul_comm younger A) ∙ sym (mul_assoc G.positions A younger) in
            let s : k < G.positions * A * younger = omega arith in
            let t : k / younger < G.positions * A = (div-lt_iff_lt-mul someY).1 s in
            rows.out k c l (omega arith) a r i;
      }

  blocks_goes : (hi count b : ℕ) (w : Work) → Good E 1 0 hi w → RowsMarked b w
      → Good E 1 0 hi (blocks_to E younger w b count) × RowsMarked (b + count) (blocks_to E younger w b count)
  unfolding steps_to block_to
  blocks_goes hi zero b w g r = let e : b + 0 ≡ b = omega arith in (g, rw e r)
  blocks_goes hi (suc count) b w g r =
      let e : b + 1 + count ≡ b + suc count = omega arith in
      ⊎_elim
      (λ (t : blocked_at E (b * younger) ≡ true).
      rw (t, ← e)
      (blocks_goes hi count (b + 1) (spoil_row_to 1 w (b * younger) younger) (rows_good hi b w g r refl t refl) (rows_spoil hi b w g r refl t refl)))
      (λ (t : blocked_at E (b * younger) ≡ false).
      rw (t, ← e) (blocks_goes hi count (b + 1) w g (rows_pass hi b w g r refl t)))
      (bool (blocked_at E (b * younger)))

  -- all rows: the state is still good, and absent outcomes are marked
  pub blocks_done : (hi : ℕ) (w : Work) → Good E 1 0 hi w
      → Good E 1 0 hi (blocks_to E younger w 0 (G.positions * A)) × Marked E (blocks_to E younger w 0 (G.positions * A)) absent
  blocks_done hi w g =
      let r = blocks_goes hi (G.positions * A) 0 w g (rows_none w) in
      (r.0, rows_all (0 + G.positions * A) _ (omega arith) r.1)
