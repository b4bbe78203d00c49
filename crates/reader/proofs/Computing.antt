-- Names for what a table of cases computes with: to unfold one of them is to unfold every definition on its line. Assumes nothing.
use mathlib.Core.Bool.{Bool, true}
use Rattle.theory.proofs.Computing.{theory_computes}
use Rattle.sheet.specs.Form.{entry_size, letter_of, offset_of, length_of, place_of, entry_ok, contents_ok, placed_at, part_at, body_of, entry_of, entries_from, bodies, sheet_of}
use Rattle.sheet.specs.Kinds.{kind_of, kind_at, is_known, is_controller, is_environment, is_safe, known_at, controller_at, environment_at, safe_at}
use Rattle.reader.specs.Checks.{positions_ok, header_ok, key_at, rises_at, target_ok, targets_ok, move_ok, moves_ok, gates_ok, begins_at, has_line, leaves_at, all_leave, size_ok}
use Rattle.sheet.specs.Size.{nodes_of}
use Rattle.sheet.specs.Bodies.{is_gated, letters_of, is_holding, start_of, action_count, delay_of}
use Rattle.reader.specs.Reading.{layout_of, checked_answer, read_answer}
use Rattle.sheet.specs.SheetGame.{is_line, target_in, moves_in, target_of, moves_of, game_of}
use Rattle.reader.specs.cases.Yards.{sheet_with, gated_with, gated_split, guess_targets, guess_moves, guess, split_gate, loop, hall}

unfoldable pub forms_compute : Bool
unfolding entry_size letter_of offset_of length_of place_of entry_ok contents_ok placed_at part_at body_of entry_of entries_from bodies sheet_of
forms_compute = true

unfoldable pub kinds_compute : Bool
unfolding kind_of kind_at is_known is_controller is_environment is_safe known_at controller_at environment_at safe_at
kinds_compute = true

unfoldable pub checks_compute : Bool
unfolding letters_of positions_ok header_ok key_at rises_at target_ok targets_ok move_ok moves_ok gates_ok begins_at has_line leaves_at all_leave nodes_of size_ok
checks_compute = true

unfoldable pub readings_compute : Bool
unfolding start_of action_count delay_of layout_of checked_answer read_answer
readings_compute = true

unfoldable pub games_compute : Bool
unfolding is_line target_in moves_in target_of moves_of is_gated is_holding game_of
games_compute = true

unfoldable pub yards_compute : Bool
unfolding sheet_with gated_with gated_split guess_targets guess_moves guess split_gate loop hall
yards_compute = true

unfoldable pub sheet_computes : Bool
unfolding theory_computes forms_compute kinds_compute checks_compute readings_compute games_compute yards_compute
sheet_computes = true
