-- What an accepted judging says: both sheets were read, they agree, the table fits the game, and the ruling is theory's. Assumes nothing.
use Prim.Native.Nat.{ℕ, ◌+◌}
use mathlib.Core.Path.{◌≡◌, sym, ◌∙◌}
use mathlib.Core.Bool.{true}
use mathlib.Core.List.{List}
use native.Mathlib.Omega.{arith}
use lib.ListN.{length}
use borrow.Author.Tests.{eqb-true, eq-eqb}
use Rattle.theory.specs.Answer.{Answer, accepted, check, on_accepted}
use Rattle.theory.specs.Delay.{initial_words}
use Rattle.theory.specs.Table.{TableFits}
use Rattle.theory.specs.Judging.{Ruling, ruling}
use Rattle.theory.proofs.Answer.{accepted_same, accepted_on, check_accepted, check_passed}
use Rattle.theory.proofs.Fold.{both_true, both_left, both_right}
use Rattle.sheet.specs.Bodies.{positions_body, start_of, action_count, delay_of}
use Rattle.reader.specs.Reading.{read_answer}
use Rattle.sheet.specs.SheetGame.{game_of}
use Rattle.reader.specs.declared.reading.Layout.{Layout}
use Rattle.reader.proofs.Accepted.{arena_nodes}
use Rattle.table.specs.TableSheet.{TableSheet, decode, table_nodes, table_answer}
use Rattle.table.proofs.Accepted.{Shaped, table_accepted}
use Rattle.judge.specs.Judging.{sheets_agree, judge_answer}

-- the numbers that check 21 compares
pub record Agrees (s : List ℕ) (x : TableSheet) : Type 0 where
  pub start : x.start ≡ start_of s
  pub actions : x.actions ≡ action_count s
  pub delay : x.delay ≡ delay_of s
  pub highest : x.highest + 1 ≡ length (positions_body s)

module _ (s : List ℕ) (x : TableSheet) where
  pub agrees : sheets_agree s x ≡ true → Agrees s x
  unfolding sheets_agree
  agrees e =
      let a = both_right _ _ e in
      let b = both_right _ _ a in
      record {
        start = eqb-true _ _ (both_left _ _ e);
        actions = eqb-true _ _ (both_left _ _ a);
        delay = eqb-true _ _ (both_left _ _ b);
        highest = eqb-true _ _ (both_right _ _ b);
      }

  pub agrees_passes : Agrees s x → sheets_agree s x ≡ true
  unfolding sheets_agree
  agrees_passes a =
      both_true _ _ (eq-eqb _ _ a.start)
      (both_true _ _ (eq-eqb _ _ a.actions) (both_true _ _ (eq-eqb _ _ a.delay) (eq-eqb _ _ a.highest)))

  -- a readable table with the game's numbers fits the game
  pub agreed_fits : Agrees s x → Shaped x → TableFits (game_of s) (delay_of s) x.table
  unfolding initial_words game_of table_nodes
  agreed_fits a h =
      record {
        flags_length = h.flags_length ∙ rw (a.actions, a.delay);
        flags_small = λ v. let l = h.flags_small v in omega arith;
        masks_length = h.masks_length ∙ rw (a.actions, a.delay, a.highest) (sym (arena_nodes s (delay_of s)));
        masks_small = λ k. rw (← a.actions) (h.masks_small k);
      }

-- both sheets were read, the table sheet with this answer, and they agree
pub record BothRead (s t : List ℕ) (answer : Answer TableSheet) : Type 0 where
  pub layout : Layout
  pub reads : read_answer s ≡ accepted layout
  pub readable : answer ≡ accepted (decode t)
  pub shaped : Shaped (decode t)
  pub agreed : Agrees s (decode t)
  pub fits : TableFits (game_of s) (delay_of s) (decode t).table

-- what an accepted chain that begins with both sheets says
pub both_read : {A : Type 0} (s t : List ℕ) (answer : Answer TableSheet)
    → ((x : TableSheet) → answer ≡ accepted x → (x ≡ decode t) × Shaped x)
    → (rest : TableSheet → Answer A) {y : A}
    → on_accepted (read_answer s) (λ l. on_accepted answer (λ x. check (sheets_agree s x) 21 (rest x))) ≡ accepted y
    → BothRead s t answer × (rest (decode t) ≡ accepted y)
both_read s t answer shape rest e =
    let a = accepted_on (read_answer s) _ e in
    let b = accepted_on answer _ a.2 in
    let c = check_accepted _ 21 _ b.2 in
    let x = shape b.0 b.1 in
    let agreed = rw x.0 at (agrees s b.0 c.0) in
    let shaped = rw x.0 at x.1 in (
      record {
        layout = a.0;
        reads = a.1;
        readable = rw x.0 at b.1;
        shaped = shaped;
        agreed = agreed;
        fits = agreed_fits s (decode t) agreed shaped;
      },
      rw x.0 at c.1,
    )

pub record Ruled (s t : List ℕ) (r : Ruling) : Type 0 where
  pub sheets : BothRead s t (table_answer t)
  pub is : ruling (game_of s) (delay_of s) (decode t).table ≡ r

module _ (s t : List ℕ) where
  pub ruled : (r : Ruling) → judge_answer s t ≡ accepted r → Ruled s t r
  unfolding judge_answer
  ruled r e =
      let a = both_read s t (table_answer t) (table_accepted t) _ e in record { sheets = a.0; is = accepted_same a.1 }

  -- and conversely
  pub ruling_is : (l : Layout) (x : TableSheet) → read_answer s ≡ accepted l → table_answer t ≡ accepted x → sheets_agree s x ≡ true
      → judge_answer s t ≡ accepted (ruling (game_of s) (delay_of s) x.table)
  unfolding judge_answer on_accepted
  ruling_is l x a b c = rw (a, b) (check_passed _ 21 _ c)
