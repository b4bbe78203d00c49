-- What the code of src/reading.rt uses of the checks that passed, and check 7. Assumes nothing.
use Prim.Native.Nat.{ℕ, ◌≤◌}
use mathlib.Core.Path.{◌≡◌}
use mathlib.Core.Bool.{Bool, true, false, not}
use mathlib.Core.List.{List}
use lib.ListN.{length}
use borrow.Author.Rules.{rules}
use borrow.Author.Tests.{leb-true}
use Rattle.theory.specs.Answer.{refused, accepted, check, on_accepted}
use Rattle.theory.proofs.Fold.{both_left, both_right, failed, passed}
use Rattle.sheet.specs.Form.{part_at, body_of}
use Rattle.reader.specs.Checks.{positions_ok, size_ok}
use Rattle.reader.specs.code.Steps.{Headed}
use Rattle.sheet.proofs.RefusalLaws.{answer_accepted}
use Rattle.reader.proofs.Accepted.{checked_is, ranges, carries_checked}
use Rattle.std.specs.Prelude.{Result, Ok}
use Rattle.sheet.specs.Refusals.{answer_of}
use Rattle.sheet.specs.Bodies.{action_count, delay_of}
use Rattle.reader.specs.Reading.{checked_answer, read_answer}
use Rattle.sheet.specs.declared.refusal.Refusal.{Refusal}
use Rattle.reader.specs.declared.reading.Layout.{Layout}
use Rattle.sheet.specs.Limits.{most_positions}

-- what checks 2 and 3 leave

pub few_positions : (s p : List ℕ) → p ≡ body_of 2 s 1 → Headed s → length p ≤ most_positions
unfolding positions_ok
few_positions s p e h = rw e (leb-true _ _ (both_left _ _ (both_right _ _ h.positions)))

-- check 7

module _ (s : List ℕ) (a : Result Layout Refusal) (e : answer_of a ≡ checked_answer s) where
  module _ (l : Layout) (f : a ≡ Ok l) where
    six_passed : checked_answer s ≡ accepted l
    six_passed = answer_accepted a (checked_answer s) e l f

    pub few_read : (p : List ℕ) → p ≡ part_at s l.positions → length p ≤ most_positions
    few_read p g =
        rw (g, (carries_checked s l six_passed).positions_part) (ranges s (checked_is s l six_passed).0).few_positions

    module _ (p : List ℕ) (g : p ≡ part_at s l.positions) (r₇ : Bool) (e₇ : r₇ ≡ size_ok p l.actions l.delay) where
      seven : r₇ ≡ size_ok (body_of 2 s 1) (action_count s) (delay_of s)
      seven =
          let c = carries_checked s l six_passed in
          rw (g, c.positions_part, c.actions, c.delay) at e₇

      pub refuses_7 : not r₇ ≡ true → refused 7 ≡ read_answer s
      unfolding read_answer check on_accepted
      refuses_7 x = rw (six_passed, failed seven x)

      pub reads_whole : not r₇ ≡ false → accepted l ≡ read_answer s
      unfolding read_answer check on_accepted
      reads_whole x = rw (six_passed, passed seven x)

pub ruleset reads = (rules, few_read, refuses_7, reads_whole)
