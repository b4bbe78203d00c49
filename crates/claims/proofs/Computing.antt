-- Names for what a table of cases computes with: to unfold one of them is to unfold every definition on its line. Assumes nothing.
use mathlib.Core.Bool.{Bool, true}
use Rattle.reader.proofs.Computing.{sheet_computes}
use Rattle.controller.specs.Accuracy.{indices_in, call_step, TrueReports, Truthful}
use Rattle.solver.specs.Solving.{solve_answer}
use Rattle.theory.specs.Table.{ours}
use Rattle.writer.specs.SheetBytes.{header_of, table_bytes, table_sheet, rank_sheet}
use Rattle.maker.specs.Making.{table_sheet_of, rank_sheet_of, made_of, output_size, make_answer}
use Rattle.table.proofs.Computing.{table_computes}
use Rattle.state.specs.State.{slot_at, agrees, held_at, within_at, held_ok, window_ok, state_ok, pushed, shifted_at, shifted}
use Rattle.controller.specs.Controller.{observe_with, word_of, obey, next_action, needed_known, act_with, open_answer, observe_answer, act_answer, on_heard, observe_each, packet_answer}

unfoldable pub solving_computes : Bool
unfolding solve_answer
solving_computes = true

unfoldable pub making_computes : Bool
unfolding ours header_of table_bytes table_sheet rank_sheet table_sheet_of rank_sheet_of made_of output_size make_answer
making_computes = true

unfoldable pub states_compute : Bool
unfolding slot_at agrees held_at within_at held_ok window_ok state_ok pushed shifted_at shifted
states_compute = true

unfoldable pub calls_compute : Bool
unfolding observe_with word_of obey next_action needed_known act_with open_answer observe_answer act_answer on_heard observe_each packet_answer
calls_compute = true

unfoldable pub claims_compute : Bool
unfolding sheet_computes solving_computes making_computes table_computes states_compute calls_compute indices_in call_step TrueReports Truthful
claims_compute = true
