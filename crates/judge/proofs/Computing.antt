-- A name for what tables of cases compute with: to unfold it is to unfold every definition on its line. Assumes nothing.
use mathlib.Core.Bool.{Bool, true}
use Rattle.reader.proofs.Computing.{sheet_computes}
use Rattle.table.proofs.Computing.{table_computes}
use Rattle.judge.specs.Judging.{sheets_agree, judge_answer}

unfoldable pub judge_computes : Bool
unfolding sheet_computes table_computes sheets_agree judge_answer
judge_computes = true
