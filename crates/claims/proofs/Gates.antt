-- W-207 over bytes (specs/Gates.antt): what a sheet with holding gates means; that making, judging and posting ask nothing but the yard that
-- is meant; and demand 3 of a holding yard by name. Assumes nothing.
use Prim.Native.Nat.{ℕ}
use mathlib.Core.Path.{◌≡◌, refl, sym, ◌∙◌, ap, fun_ext}
use mathlib.Core.Bool.{Bool, true, false}
use mathlib.Core.List.{List, map}
use lib.Dec.{leb}
use lib.ListN.{length}
use borrow.Author.Tests.{leb-true}
use Rattle.theory.specs.Fold.{both}
use Rattle.theory.specs.Answer.{Answer, refused, accepted, check, on_accepted}
use Rattle.theory.specs.Game.{Game, Legal}
use Rattle.theory.specs.Play.{last, IsRule}
use Rattle.theory.specs.Reach.{reached}
use Rattle.theory.specs.Delay.{arena, answer}
use Rattle.theory.specs.Table.{Table}
use Rattle.theory.specs.Holding.{held, completed}
use Rattle.theory.proofs.Holding.{held_own, held_missing, held_none, held_from, reached_same}
use Rattle.sheet.specs.Bodies.{positions_body, is_holding, start_of, action_count, delay_of}
use Rattle.sheet.specs.SheetGame.{written_game, game_of}
use Rattle.reader.specs.Reading.{read_answer}
use Rattle.reader.specs.declared.reading.Layout.{Layout}
use Rattle.reader.proofs.Accepted.{carries}
use Rattle.solver.specs.Solving.{Solved, solve_answer, solved_delay, masks_left, ranks_left}
use Rattle.solver.specs.cases.Solving as solving
use Rattle.table.specs.TableSheet.{TableSheet, table_answer, shape_answer}
use Rattle.judge.specs.Judging.{sheets_agree, judge_answer}
use Rattle.maker.specs.Making.{Made, won, make_answer, output_size, made_of}
use Rattle.maker.proofs.Made.{making_won}
use Rattle.notice.specs.Posting.{post_answer, fitted_answer, output_posted, written_of, posted_answer, posted_output}
use Rattle.controller.specs.Accuracy.{begun, Truthful, Accurate}
use Rattle.claims.specs.Gates.{line_target, Holds, SameBodies, SameYard}
use Rattle.claims.specs.cases.Starred.{replies_to}
use Rattle.claims.specs.cases.Gates.{held_gate, gate_cases, gate_table, first_move, gate_calls, gate_replies}
use Rattle.claims.proofs.Accuracy.{made_accuracy}
use Rattle.claims.proofs.Cases.{member_at, some_move}
use Rattle.claims.proofs.Computing.{claims_compute}

-- what an accepted sheet means

module _ (s : List ℕ) (l : Layout) (reads : read_answer s ≡ accepted l) where
  pub holding_completes : l.holding ≡ true → Holds s
  unfolding game_of
  holding_completes e =
      let h : is_holding s ≡ true = sym (carries s l reads).holding ∙ e in
      record {
        written = λ p c q t. held_own (action_count s) (line_target s) p c (is_holding s) t;
        missing = λ p c q t below first. rw h (held_missing (action_count s) (line_target s) p c t below ∙ first);
        nothing = λ p c first. held_none (action_count s) (line_target s) p c (is_holding s) first;
        no_more = λ p c q t. held_from (action_count s) (line_target s) p c (is_holding s) q t;
        rest = refl;
      }

  -- "without G the sheet means what it did", and with G = 0
  pub plain_means : l.holding ≡ false → game_of s ≡ written_game s
  unfolding game_of held
  plain_means e =
      let h : is_holding s ≡ false = sym (carries s l reads).holding ∙ e in
      ap (λ b. completed b (written_game s)) h

  -- the positions on plays are those of the yard as it is written
  pub reached_written : l.reached ≡ reached (written_game s)
  unfolding game_of
  reached_written = (carries s l reads).reached ∙ reached_same (is_holding s) (written_game s)

-- "24 .. wherever those are tested": what reading refuses, making, judging and posting refuse with its number
module _ (s : List ℕ) (n : ℕ) (e : read_answer s ≡ refused n) where
  pub refused_making : (masks ranks output : ℕ) → make_answer s masks ranks output ≡ refused n
  unfolding make_answer solve_answer on_accepted
  refused_making masks ranks output = rw e

  pub refused_judging : (table : List ℕ) → judge_answer s table ≡ refused n
  unfolding judge_answer on_accepted
  refused_judging table = rw e

  pub refused_posting : (table notice : List ℕ) (room : ℕ) → post_answer s table notice room ≡ refused n
  unfolding post_answer on_accepted
  refused_posting table notice room = rw e

-- two sheets that mean the same

pub bodies_yard : (s t : List ℕ) → SameBodies s t → SameYard s t
unfolding game_of start_of action_count delay_of
bodies_yard s t b =
    record {
      game = rw (b.header, b.positions, b.targets, b.moves, b.holding);
      delay = rw b.header;
    }

-- making, once the sheet was read
abbrev made_by : Game → ℕ → Layout → ℕ → ℕ → ℕ → Answer Made
made_by G d l masks ranks output =
    on_accepted
    (check (both (leb (arena G d).nodes masks) (leb (arena G d).nodes ranks)) 8 (accepted (record { verdict = answer G d; layout = l })))
    (λ (a : Solved). check (leb (output_size G d) output) 9 (accepted (made_of G d a.verdict)))

made_by_lem : (s : List ℕ) (l : Layout) → read_answer s ≡ accepted l → (masks ranks output : ℕ)
    → make_answer s masks ranks output ≡ made_by (game_of s) (delay_of s) l masks ranks output
unfolding make_answer solve_answer on_accepted
made_by_lem s l e masks ranks output = rw e

-- what it carries besides the verdict is not asked
layout_unasked : (G : Game) (d : ℕ) (l k : Layout) (masks ranks output : ℕ) → made_by G d l masks ranks output ≡ made_by G d k masks ranks output
unfolding on_accepted check
layout_unasked G d l k masks ranks output = by (both (leb (arena G d).nodes masks) (leb (arena G d).nodes ranks))
  where
    by : (b : Bool)
        → on_accepted (check b 8 (accepted (record { verdict = answer G d; layout = l })))
        (λ (a : Solved). check (leb (output_size G d) output) 9 (accepted (made_of G d a.verdict)))
        ≡ on_accepted (check b 8 (accepted (record { verdict = answer G d; layout = k })))
        (λ (a : Solved). check (leb (output_size G d) output) 9 (accepted (made_of G d a.verdict)))
    by true = refl
    by false = refl

-- so the yard that is meant decides, also where one sheet writes out what the other's gates hold
module _ (s t : List ℕ) (l k : Layout) (rs : read_answer s ≡ accepted l) (rt : read_answer t ≡ accepted k) (same : SameYard s t) where
  pub same_made : (masks ranks output : ℕ) → make_answer s masks ranks output ≡ make_answer t masks ranks output
  same_made masks ranks output =
      made_by_lem s l rs masks ranks output
      ∙ layout_unasked (game_of s) (delay_of s) l k masks ranks output
      ∙ ap (λ G. made_by G (delay_of s) k masks ranks output) same.game
      ∙ ap (λ d. made_by (game_of t) d k masks ranks output) same.delay
      ∙ sym (made_by_lem t k rt masks ranks output)

  start_same : start_of s ≡ start_of t
  unfolding game_of
  start_same = ap (λ (G : Game). G.start) same.game

  actions_same : action_count s ≡ action_count t
  unfolding game_of
  actions_same = ap (λ (G : Game). G.actions) same.game

  count_same : length (positions_body s) ≡ length (positions_body t)
  unfolding game_of
  count_same = ap (λ (G : Game). G.positions) same.game

  agree_same : (x : TableSheet) → sheets_agree s x ≡ sheets_agree t x
  unfolding sheets_agree
  agree_same x = rw (start_same, actions_same, same.delay, count_same)

  pub same_judged : (table : List ℕ) → judge_answer s table ≡ judge_answer t table
  unfolding judge_answer on_accepted
  same_judged table =
      rw (rs, rt)
      (ap (on_accepted (table_answer table))
      (fun_ext (λ x. rw (agree_same x, same.game, same.delay))))

  table_same : (table notice : List ℕ) (room : ℕ) → post_answer s table notice room ≡ post_answer t table notice room
  unfolding post_answer on_accepted fitted_answer
  table_same table notice room =
      rw (rs, rt)
      (ap (on_accepted (shape_answer table))
      (fun_ext (λ x. rw (agree_same x, count_same, same.game, same.delay))))

  pub same_posted : (table notice output : List ℕ) → posted_answer s table notice output ≡ posted_answer t table notice output
  unfolding written_of
  same_posted table notice output = rw (table_same table notice (length output), same.game, same.delay)

  left_same : (a : Answer Table) (buffer : List ℕ) → output_posted s a buffer ≡ output_posted t a buffer
  unfolding output_posted
  left_same (refused n) buffer = refl
  left_same (accepted T) buffer = rw (same.game, same.delay)

  pub same_output : (table notice output : List ℕ) → posted_output s table notice output ≡ posted_output t table notice output
  same_output table notice output =
      rw (table_same table notice (length output)) (left_same (post_answer t table notice (length output)) output)

-- by computation: the split gate with G of 1, of 0 and without G, and with a G that is refused
pub gates_met : map (λ (x : solving.Case). solving.effect x.sheet x.masks_room x.ranks_room) gate_cases ≡ map (λ (x : solving.Case). x.effect) gate_cases
unfolding claims_compute solved_delay masks_left ranks_left solving.effect solving.solved solving.unsolved held_gate gate_cases
gates_met = refl

-- demand 3 of the split gate with holding gates: at position 0 the yard holds command 1, which is missing there

pub first_rule : (G : Game) → Legal G → IsRule G (first_move G)
unfolding first_move
first_rule G legal π p e = member_at (G.moves (last G π)) 0 (some_move G legal π p e)

pub gate_made : make_answer held_gate 3 3 27 ≡ accepted (won gate_table)
unfolding claims_compute held_gate gate_table
gate_made = refl

pub gate_replies_lem : replies_to gate_table begun gate_calls ≡ gate_replies
unfolding claims_compute replies_to gate_table gate_calls gate_replies
gate_replies_lem = refl

gate_true : Truthful (game_of held_gate) gate_table (first_move (game_of held_gate)) begun gate_calls
unfolding claims_compute first_move held_gate gate_table gate_calls
gate_true = (
  tt,
  (tt, (λ l u. (leb-true 1 2 refl, refl), (tt, (λ l u. (leb-true 4 4 refl, refl), (tt, (λ l u. (leb-true 3 4 refl, refl), (tt, tt))))))),
)

pub gate_accurate : Accurate (game_of held_gate) gate_table (first_move (game_of held_gate)) gate_calls
gate_accurate =
    made_accuracy held_gate 3 3 27 gate_table gate_made (first_move (game_of held_gate))
    (first_rule (game_of held_gate) (making_won held_gate 3 3 27 gate_table gate_made).ranged.legal) gate_calls gate_true
