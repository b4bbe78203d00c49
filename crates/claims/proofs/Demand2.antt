-- Demand 2 over bytes (specs/Demand2.antt): `solve` is proved to give `solve_answer`, `masks_left` and `ranks_left` (solver/src/solve.rt);
-- the rest is theory. Assumes nothing.
use Prim.Native.Nat.{ℕ, suc, ◌≤◌, ◌<◌}
use mathlib.Core.Path.{◌≡◌, sym, ◌∙◌}
use mathlib.Core.Bool.{true}
use mathlib.Core.List.{List}
use mathlib.Core.Logic.{◌↔◌}
use lib.ListN.{length, get_or}
use borrow.Author.Tests.{le-leb}
use Rattle.theory.specs.Answer.{accepted, on_accepted}
use Rattle.theory.specs.Game.{Game, Legal}
use Rattle.theory.specs.Rounds.{final_ranks, masks}
use Rattle.theory.specs.Delay.{arena, answer}
use Rattle.theory.specs.Table.{bit, allows, ours}
use Rattle.theory.proofs.Fold.{both_true}
use Rattle.theory.proofs.Answer.{check_passed}
use Rattle.theory.proofs.Rounds.{final_length, final_round}
use Rattle.theory.proofs.Region.{kept_is, region_closed, region_largest, length_masks}
use Rattle.theory.proofs.Tables.{step_legal}
use Rattle.theory.proofs.OurTable.{allows_keeps}
use Rattle.theory.proofs.Monotone.{answer_iff, answer_least}
use Rattle.sheet.specs.Bodies.{delay_of}
use Rattle.reader.specs.Reading.{read_answer}
use Rattle.sheet.specs.SheetGame.{game_of}
use Rattle.reader.specs.declared.reading.Layout.{Layout}
use Rattle.reader.proofs.Legality.{legal_game}
use Rattle.solver.specs.Solving.{Solved, solve_answer, solved_delay, masks_left, ranks_left}
use Rattle.solver.proofs.Accepted.{solved_is}
use Rattle.theory.specs.Buffer.{over}
use Rattle.theory.proofs.Buffer.{over_front, over_beyond}
use Rattle.claims.specs.Demand2.{Demand2, IsKept, StaysIn, WinningSet, TableFor, FallsIn}

module _ (G : Game) (legal : Legal G) (d : ℕ) (mask-buffer rank-buffer : List ℕ) where
  region_wins : WinningSet G d (IsKept G d)
  region_wins k h r e =
      let c = region_closed (arena G d) k h e in
      record {
        safe = c.safe;
        action = c.action;
        action_lt = c.action_lt;
        inside =
            λ o i.
            let x = c.inside o i in
            let l = step_legal G legal d k c.action x.0 (rw x.1 at i) in
            (x.0, x.1, kept_is (arena G d) (final_ranks (arena G d)) x.0 l.1 x.2);
      }

  mask_keeps : (k c : ℕ) → k < (arena G d).nodes → (bit (get_or (over (masks (arena G d)) mask-buffer) k 0) c ≡ true)
      ↔ (IsKept G d k × (c < G.actions) × StaysIn G d (IsKept G d) k c)
  unfolding allows ours
  mask_keeps k c h =
      let q = over_front (masks (arena G d)) mask-buffer k (rw (length_masks (arena G d)) h) in
      let a = allows_keeps G legal d k c in (
        λ e. let x = a.0 (rw q at e) in (x.kept, x.action, x.inside),
        λ x. rw q (a.1 (record { node = h; kept = x.0; action = x.1; inside = x.2 })),
      )

  rank_round : (n k : ℕ) → k < (arena G d).nodes → (get_or (over (final_ranks (arena G d)) rank-buffer) k 0 ≡ suc n) ↔ FallsIn G d n k
  rank_round n k h =
      let q = over_front (final_ranks (arena G d)) rank-buffer k (rw (final_length (arena G d)) h) in
      rw q (final_round (arena G d) n k)

  table_is : TableFor G d mask-buffer rank-buffer (over (masks (arena G d)) mask-buffer) (over (final_ranks (arena G d)) rank-buffer)
  table_is =
      record {
        kept_wins = region_wins;
        kept_largest = λ S w k r e. kept_is (arena G d) (final_ranks (arena G d)) k r (region_largest (arena G d) S w k e);
        masks = mask_keeps;
        ranks = rank_round;
        masks_beyond = λ k h. over_beyond (masks (arena G d)) mask-buffer k (rw (length_masks (arena G d)) h);
        ranks_beyond = λ k h. over_beyond (final_ranks (arena G d)) rank-buffer k (rw (final_length (arena G d)) h);
      }

module _ (s mask-buffer rank-buffer : List ℕ) where
  -- the theorem
  pub demand_2 : (a : Solved) → solve_answer s (length mask-buffer) (length rank-buffer) ≡ accepted a → Demand2 s a mask-buffer rank-buffer
  unfolding masks_left ranks_left
  demand_2 a e =
      let x = solved_is s _ _ a e in
      let legal = legal_game s a.layout x.0 in
      let i = answer_iff (game_of s) legal (delay_of s) in
      record {
        winning = (λ v. i.0 (x.1 ∙ v), λ w. sym x.1 ∙ i.1 w);
        losing =
            λ m v.
            let l = answer_least (game_of s) legal (delay_of s) m (x.1 ∙ v) in
            record { within = l.asked; none = l.none; below = l.least };
        table = table_is (game_of s) legal (solved_delay (delay_of s) a.verdict) mask-buffer rank-buffer;
      }

  -- and every accepted sheet with large enough buffers is solved
  pub solves : (l : Layout) → read_answer s ≡ accepted l → (arena (game_of s) (delay_of s)).nodes ≤ length mask-buffer
      → (arena (game_of s) (delay_of s)).nodes ≤ length rank-buffer
      → solve_answer s (length mask-buffer) (length rank-buffer) ≡ accepted (record { verdict = answer (game_of s) (delay_of s); layout = l })
  unfolding solve_answer on_accepted
  solves l e m k = rw e (check_passed _ 8 _ (both_true _ _ (le-leb _ _ m) (le-leb _ _ k)))
