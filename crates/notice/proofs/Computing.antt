-- A name for what tables of cases compute with: to unfold it is to unfold every definition on its line. Assumes nothing.
use mathlib.Core.Bool.{Bool, true}
use Rattle.judge.proofs.Computing.{judge_computes}
use Rattle.judge.specs.cases.Tables.{table_from, hall_by, hall_ours, hall_less}
use Rattle.writer.specs.SheetBytes.{header_of, table_bytes, table_sheet}
use Rattle.notice.specs.Posting.{fitted_answer, post_answer, output_posted, written_of}

unfoldable pub notice_computes : Bool
unfolding judge_computes table_from hall_by hall_ours hall_less header_of table_bytes table_sheet fitted_answer post_answer output_posted written_of
notice_computes = true
