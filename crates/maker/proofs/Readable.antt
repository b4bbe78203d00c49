-- What making writes for a winning game is a readable table sheet that says what it should: the game's start, actions, delay,
-- highest position, and its own table. Assumes nothing.
use Prim.Native.Nat.{ℕ, ◌+◌, ◌<◌, ◌^◌}
use mathlib.Core.Path.{◌≡◌}
use mathlib.Core.Bool.{true}
use lib.ListN.{length}
use Rattle.theory.specs.Answer.{accepted}
use Rattle.theory.specs.Game.{Game}
use Rattle.theory.specs.Rounds.{final_ranks}
use Rattle.theory.specs.Delay.{initial_words, arena, good_with, winning}
use Rattle.theory.specs.Table.{ours, flagged}
use Rattle.theory.proofs.Fold.{any_holds, any_some}
use Rattle.theory.proofs.OurTable.{good_flagged, ours_fits}
use Rattle.sheet.specs.Limits.{width}
use Rattle.table.specs.TableSheet.{TableSheet, decode, some_flagged, table_answer}
use Rattle.writer.specs.SheetBytes.{table_said}
use Rattle.writer.proofs.Readable.{Ranged, table_length, table_short, table_says, table_reads}
use Rattle.maker.specs.Making.{table_sheet_of}

-- what the made sheet of a winning game says
abbrev pub table_for : Game → ℕ → TableSheet
table_for G d = table_said G d (ours G d)

module _ (G : Game) (d : ℕ) where
  pub table_sheet_length : length (table_sheet_of G d) ≡ 19 + initial_words G d + (arena G d).nodes
  unfolding table_sheet_of
  table_sheet_length = table_length G d (ours G d) (ours_fits G d)

  some_good_lem : winning G d ≡ true → some_flagged (ours G d) ≡ true
  unfolding some_flagged winning
  some_good_lem e =
      let g = any_some (good_with G d (final_ranks (arena G d))) (initial_words G d) e in
      any_holds (flagged (ours G d)) g.0 (length (ours G d).flags) (rw (ours_fits G d).flags_length g.1)
      (good_flagged G d g.0 g.1 g.2)

  module _ (ranged : Ranged G d) where
    pub table_sheet_short : length (table_sheet_of G d) < 256 ^ width
    unfolding table_sheet_of
    table_sheet_short = table_short G d (ours G d) (ours_fits G d) ranged

    pub made_says : decode (table_sheet_of G d) ≡ table_for G d
    unfolding table_sheet_of
    made_says = table_says G d (ours G d) (ours_fits G d) ranged

    pub made_readable : winning G d ≡ true → table_answer (table_sheet_of G d) ≡ accepted (table_for G d)
    unfolding table_sheet_of
    made_readable e = table_reads G d (ours G d) (ours_fits G d) ranged (some_good_lem e)
