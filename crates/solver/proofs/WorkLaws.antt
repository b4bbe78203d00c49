-- All rounds at one delay (src/work.rt), over the arena of the arrays. Assumes nothing.
use Prim.Native.Nat.{ℕ, ◌+◌, ◌-◌, ◌*◌, ◌^◌, ◌≤◌, ◌<◌}
use mathlib.Core.Path.{◌≡◌, refl}
use mathlib.Core.List.{List}
use native.Mathlib.Omega.{arith}
use lib.ListN.{length}
use Rattle.theory.specs.Rounds.{Arena, ranks_after}
use Rattle.theory.proofs.Rounds.{fell_rank}
use Rattle.sheet.specs.code.Arrays.{view_of}
use Rattle.walk.specs.declared.level.Level.{Level}
use Rattle.walk.specs.code.Levels.{arena_of}
use Rattle.solver.specs.code.Sizes.{largest16}
use Rattle.solver.specs.code.Work.{Work}
use Rattle.solver.specs.code.Sweep.{Index, sweep_to}
use Rattle.solver.specs.code.First.{Placed}
use Rattle.solver.specs.code.Block.{blocks_to}
use Rattle.solver.specs.code.Working.{Workable, Worked}
use Rattle.solver.proofs.StateLaws.{Good}
use Rattle.solver.proofs.ReadyLaws.{Ready, Finished, ready_next, ready_done}
use Rattle.solver.proofs.StartLaws.{start_good}
use Rattle.solver.proofs.BlockLaws.{blocks_done}
use borrow.Author.Rules.{rules}

-- the state before a sweep, in code
pub record Rounding (E : Arena) (n lo hi : ℕ) (w : Work) : Type 0 where
  pub ready : Ready E n lo hi w
  pub few : n ≤ hi + 1

module _ {p : List ℕ} {g : List (List ℕ)} {u f : List ℕ} {x : Index} {l : Level} {younger : ℕ}
    (can : Workable p g u f x l younger) where
  abbrev E : Arena
  E = arena_of p g u f l

  nodes_is : l.nodes ≡ E.nodes
  unfolding arena_of view_of
  nodes_is = can.sized.all_nodes

  -- the start
  module _ {w : Work} {full : ℕ} (is : full ≡ 2 ^ l.actions - 1) (placed : Placed p l full l.nodes w) where
    start_placed : Good E 1 0 w.tail w
    unfolding arena_of view_of
    start_placed =
        start_good E p l w can.fits.some_action nodes_is (λ k. refl) (λ k. refl) (rw is at placed)

    pub start_rounds : {v : Work} → v ≡ blocks_to E younger w 0 (length p * l.actions) → Rounding E 1 0 w.tail v
    unfolding arena_of view_of
    start_rounds e =
        let done =
        blocks_done (view_of p g u f l.start l.actions) l.odd l.words younger can.fits.some_action can.fits.some_younger can.fits.whole
        w.tail w start_placed in
        record {
          ready =
              rw e
              (record {
                some = omega arith;
                good = done.0;
                order = omega arith;
                blocked = done.1;
                earlier = λ j a b. let z = fell_rank (ranks_after E 1) j a in absurd (omega arith);
              });
          few = omega arith;
        }

  -- before a sweep
  module _ {n lo hi : ℕ} {w : Work} (r : Rounding E n lo hi w) where
    pub round_inside : hi ≤ l.nodes
    round_inside =
        let a = r.ready.good.order in
        let b = r.ready.good.room in
        let e = nodes_is in
        omega arith

    pub round_queue : hi ≤ length w.queue
    round_queue = let a = round_inside in let b = r.ready.good.queue_size in let e = nodes_is in omega arith

    pub round_few : n < largest16
    round_few = let a = round_inside in let b = r.few in let c = can.sized.few_nodes in omega arith

    module _ {v : Work} (e : v ≡ sweep_to x l younger n w lo (hi - lo)) where
      next_ready : Ready E (n + 1) hi v.tail v
      unfolding arena_of view_of
      next_ready =
          ready_next (view_of p g u f l.start l.actions) can.legal l younger can.fits refl x
          can.reverses n lo hi w r.ready e

      pub round_more : (v.tail ≡ hi → ⊥) → hi < v.tail
      round_more z = let o = next_ready.order in omega (arith, z)

      pub round_next : (v.tail ≡ hi → ⊥) → Rounding E (n + 1) hi v.tail v
      round_next z = let m = round_more z in let b = r.few in record { ready = next_ready; few = omega arith }

      pub next_inside : v.tail ≤ l.nodes
      next_inside =
          let a = next_ready.good.order in
          let b = next_ready.good.room in
          let c = nodes_is in
          omega arith

      done_here : v.tail ≡ hi → Finished E n v
      unfolding arena_of view_of
      done_here z =
          ready_done (view_of p g u f l.start l.actions) can.legal l younger can.fits refl x
          can.reverses n lo hi w r.ready e (omega arith)

      pub round_over : v.tail ≡ hi → Worked E v.ranks v.masks n
      round_over z = let d = done_here z in record { ranks = d.ranks; masks = d.masks; most = d.most }

pub ruleset rounding = (rules, start_rounds, round_queue, round_few, round_more, round_next, round_over, next_inside)
