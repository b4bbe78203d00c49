-- The rounds by sweeps, over the arena of a game: what holds before a sweep holds after it for the next one, or all rounds are
-- over. Assumes nothing.
use Prim.Native.Nat.{ℕ, zero, suc, ◌+◌, ◌-◌, ◌*◌, ◌/◌, ◌%◌, ◌≤◌, ◌<◌}
use mathlib.Core.Path.{◌≡◌, ◌∙◌, ap}
use mathlib.Core.Bool.{Bool, true, false}
use mathlib.Core.Logic.{⊎_elim}
use mathlib.Core.List.{List, Memᴰ}
use native.Mathlib.Omega.{arith}
use native.Mathlib.Nat.{div-lt_iff_lt-mul}
use native.Mathlib.Numerals.{add-one}
use lib.ListN.{get_or}
use Rattle.theory.specs.Game.{absent, to, Game, Legal}
use Rattle.theory.specs.Rounds.{Arena, spoilt_by, fell, ranks_after, final_ranks, masks}
use Rattle.theory.specs.Delay.{step, arena_by}
use Rattle.theory.specs.Table.{bit}
use Rattle.theory.proofs.Fold.{below?, same?}
use Rattle.theory.proofs.Rounds.{fell_true, fell_rank, fell_node, rank_le}
use Rattle.walk.specs.declared.level.Level.{Level}
use Rattle.solver.specs.code.Spread.{Spot}
use Rattle.solver.specs.code.Work.{Work, steps_to, marks_to}
use Rattle.solver.specs.code.Sweep.{Index, Fitted, nodes_before, spread_to, sweep_to, Reverses}
use Rattle.solver.proofs.StateLaws.{rank_of, mask_of, entry_of, Good, Goes, goes_none, goes_on, marks_goes}
use Rattle.solver.proofs.RoundLaws.{Marked, marked_still, AllMarked, round_ranks, round_good, round_final, round_most, round_masks}
use Rattle.solver.proofs.BeforeLaws.{last_below_lem, even_sound, odd_sound, even_cover, odd_cover, some_words}

-- what is known before the nodes of rank n are swept
pub record Ready (E : Arena) (n lo hi : ℕ) (w : Work) : Type 0 where
  pub some : 1 ≤ n
  pub good : Good E n lo hi w
  pub order : lo ≤ hi
  pub blocked : Marked E w absent
  pub earlier : (j : ℕ) → fell (ranks_after E n) j ≡ true → get_or (ranks_after E n) j 0 < n → Marked E w (to j)

-- what is left at the end, in n rounds
pub record Finished (E : Arena) (n : ℕ) (w : Work) : Type 0 where
  pub ranks : w.ranks ≡ final_ranks E
  pub masks : w.masks ≡ masks E
  pub most : (k : ℕ) → get_or (final_ranks E) k 0 ≤ n

module _ (G : Game) (legal : Legal G) (l : Level) (younger : ℕ) (fits : Fitted l younger) (acts : l.actions ≡ G.actions) (x : Index) (rev : Reverses G x) where
  abbrev A : ℕ
  A = G.actions

  abbrev m : ℕ
  m = l.words

  some : 0 < A
  some = rw acts at fits.some_action

  whole : m ≡ younger * A
  whole = rw acts at fits.whole

  abbrev spot : ℕ → ℕ → Spot
  spot n j = record { n = n; words = m; younger = younger; actions = A; word = j % m; rest = (j % m) / A; action = (j % m) % A }

  sound : (odd : Bool) (n j : ℕ) (fallen : ℕ → Bool) → fallen j ≡ true → j / m < G.positions → (k : ℕ)
      → Memᴰ k (nodes_before odd x (spot n j) (j / m)) → spoilt_by (arena_by odd G m) fallen k ((j % m) % A) ≡ true
  sound true n j fallen f h k i = odd_sound G m younger some fits.some_younger whole legal x rev n j fallen f h k i
  sound false n j fallen f h k i = even_sound G m younger some fits.some_younger whole legal x rev n j fallen f h k i

  cover : (odd : Bool) (n j k c : ℕ) → c < A → Memᴰ (to j) (step odd G m k c)
      → (c ≡ (j % m) % A) × Memᴰ k (nodes_before odd x (spot n j) (j / m))
  cover true n j k c a i = odd_cover G m younger some fits.some_younger whole legal x rev n j k c a i
  cover false n j k c a i = even_cover G m younger some fits.some_younger whole legal x rev n j k c a i

  abbrev E : Arena
  E = arena_by l.odd G m

  module _ (n lo hi : ℕ) where
    spread_goes : (w : Work) (j : ℕ) → Good E n lo hi w → fell (ranks_after E n) j ≡ true
        → Goes E n lo hi w (spread_to x l younger n w j) × Marked E (spread_to x l younger n w j) (to j)
    unfolding spread_to
    spread_goes w j g f =
        let below = fell_node E n j f in
        let inside : j / m < G.positions =
        (div-lt_iff_lt-mul (some_words A younger m some fits.some_younger whole)).1 below in
        let r =
        marks_goes E n lo hi ((j % m) % A) (last_below_lem G m younger some fits.some_younger whole legal x rev n j)
        (nodes_before l.odd x (spot n j) (j / m))
        (λ k i a b. sound l.odd n j (fell (ranks_after E n)) f inside k i) w g in
        rw acts (
          r.0,
          record {
            out = λ k c h a b i.
                let z = cover l.odd n j k c a i in
                ap (λ y. bit (mask_of (marks_to n ((j % m) % A) w (nodes_before l.odd x (spot n j) (j / m))) k) y) z.0 ∙ r.1 k z.1;
          },
        )

    sweep_goes : (some : 1 ≤ n) (count at : ℕ) (w : Work) → Good E n lo hi w → lo ≤ at → at + count ≤ hi
        → Goes E n lo hi w (sweep_to x l younger n w at count)
        × ((i : ℕ) → at ≤ i → i < at + count → Marked E (sweep_to x l younger n w at count) (to (entry_of w i)))
    unfolding steps_to
    sweep_goes some zero at w g a b = (goes_none E n lo hi w g, λ i c d. absurd (omega arith))
    sweep_goes some (suc count) at w g a b =
        let r = g.old.ranked at a (omega arith) in
        let one = spread_goes w (entry_of w at) g (fell_true (ranks_after E n) (entry_of w at) (omega arith)) in
        let more = sweep_goes some count (at + 1) (spread_to x l younger n w (entry_of w at)) one.0.good (omega arith) (omega arith) in
        let o = g.order in (
          goes_on E n lo hi one.0 more.0,
          λ i c d.
              ⊎_elim
              (λ (q : i ≡ at). rw q (marked_still more.0.went one.1))
              (λ (q : i ≡ at → ⊥).
              let u : i < at + 1 + count = omega arith in
              let t : i < w.tail = omega arith in
              let v : at + 1 ≤ i = omega arith in
              rw (one.0.went.queue i t) at (more.1 i v u))
              (same? i at),
        )

    -- after the sweep all that has fallen is marked
    module _ (w : Work) (ready : Ready E n lo hi w) where
      abbrev swept : Work
      swept = sweep_to x l younger n w lo (hi - lo)

      whole_sweep : Goes E n lo hi w swept × ((i : ℕ) → lo ≤ i → i < lo + (hi - lo) → Marked E swept (to (entry_of w i)))
      whole_sweep = let o = ready.order in sweep_goes ready.some (hi - lo) lo w ready.good (omega arith) (omega arith)

      pub swept_good : Good E n lo hi swept
      swept_good = whole_sweep.0.good

      swept_marked : AllMarked E n swept
      swept_marked =
          record {
            blocked = marked_still whole_sweep.0.went ready.blocked;
            fallen = λ j f.
                let o = ready.order in
                let p = rank_le E n j in
                ⊎_elim
                (λ (h : get_or (ranks_after E n) j 0 < n). marked_still whole_sweep.0.went (ready.earlier j f h))
                (λ (h : n ≤ get_or (ranks_after E n) j 0).
                let z = ready.good.old.every j (fell_node E n j f) (omega arith) in
                let b = z.2 in
                let u : z.0 < lo + (hi - lo) = omega arith in
                rw z.3 at (whole_sweep.1 z.0 z.1 u))
                (below? (get_or (ranks_after E n) j 0) n);
          }

  -- one round more, or none
  pub ready_next : (n lo hi : ℕ) (w : Work) (ready : Ready E n lo hi w) {v : Work} → v ≡ sweep_to x l younger n w lo (hi - lo)
      → Ready E (n + 1) hi v.tail v
  ready_next zero lo hi w ready e = let z = ready.some in absurd (omega arith)
  ready_next (suc m) lo hi w ready {v} e =
      let g = swept_good (suc m) lo hi w ready in
      let a = swept_marked (suc m) lo hi w ready in
      rw (add-one (suc m), e)
      (record {
        some = omega arith;
        good = round_good E m lo hi _ g a;
        order = g.order;
        blocked = a.blocked;
        earlier = λ j f h. a.fallen j (before g a j f h);
      })
    where
      before : {u : Work} (g : Good E (suc m) lo hi u) (a : AllMarked E (suc m) u) (j : ℕ) → fell (ranks_after E (suc (suc m))) j ≡ true
          → get_or (ranks_after E (suc (suc m))) j 0 < suc (suc m) → fell (ranks_after E (suc m)) j ≡ true
      before {u} g a j f h =
          let p = fell_rank (ranks_after E (suc (suc m))) j f in
          let q : rank_of u j ≡ get_or (ranks_after E (suc (suc m))) j 0 = ap (λ (y : List ℕ). get_or y j 0) (round_ranks E m lo hi u g a) in
          grind (arith, g.rank j, fell_true (ranks_after E (suc m)) j)

  pub ready_done : (n lo hi : ℕ) (w : Work) (ready : Ready E n lo hi w) {v : Work} → v ≡ sweep_to x l younger n w lo (hi - lo)
      → v.tail ≤ hi → Finished E n v
  ready_done zero lo hi w ready e h = let z = ready.some in absurd (omega arith)
  ready_done (suc m) lo hi w ready {v} e h =
      let g = swept_good (suc m) lo hi w ready in
      let a = swept_marked (suc m) lo hi w ready in
      let t : (swept (suc m) lo hi w ready).tail ≤ hi = (rw e at h) in
      rw e
      (record {
        ranks = round_final E m lo hi _ g a t;
        masks = round_masks E m lo hi _ g a t;
        most = round_most E m lo hi _ g a t;
      })
