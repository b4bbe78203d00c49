-- Names for what a table of cases computes with: to unfold one of them is to unfold every definition on its line. Assumes nothing.
use mathlib.Core.Bool.{Bool, true}
use Rattle.theory.specs.Fold.{both, either, all_below, any_below, first_not, count, any_of, tabulate}
use Rattle.theory.specs.Answer.{check, on_accepted}
use Rattle.theory.specs.Buffer.{over}
use Rattle.theory.specs.Bytes.{bytes_of, number_at}
use Rattle.theory.specs.Words.{encode, digit}
use Rattle.theory.specs.Play.{last_from, turns, index, back, actions_of, last_actions}
use Rattle.theory.specs.Rounds.{bad, spoilt_by, fell, node_falls, rank_in, ranks_after, final_ranks, kept_by, mask_below, mask_at, masks_by, masks}
use Rattle.theory.specs.Delay.{odd, words, initial_words, on_right, with_word, moved_to, played_to, outcomes, step, arena, kept_at, good_by}
use Rattle.theory.specs.Delay.{good_from, good_with, winning, flag_by, flags, answer_by, answer}
use Rattle.theory.specs.Table.{ours, flagged, lacks, has, bit, allows}
use Rattle.theory.specs.Judging.{word_ok, action_ok, node_ok, ruling}
use Rattle.theory.specs.Closing.{listed, open_in, close, part, within, post}
use Rattle.theory.specs.Exact.{least_flagged, lowest_in, action_at, arrive, advance, turn_by, play_by, exact_choice, exact, worked}
use Rattle.theory.specs.Holding.{or_else, held}
use Rattle.theory.specs.Reach.{is_target, leads, mark_in, marks_after, reached}

unfoldable pub folds_compute : Bool
unfolding both either all_below any_below first_not count any_of tabulate
folds_compute = true

unfoldable pub answers_compute : Bool
unfolding check on_accepted
answers_compute = true

unfoldable pub buffers_compute : Bool
unfolding over
buffers_compute = true

unfoldable pub bytes_compute : Bool
unfolding bytes_of number_at
bytes_compute = true

unfoldable pub words_compute : Bool
unfolding encode digit
words_compute = true

unfoldable pub plays_compute : Bool
unfolding last_from turns index back actions_of last_actions
plays_compute = true

unfoldable pub rounds_compute : Bool
unfolding bad spoilt_by fell node_falls rank_in ranks_after final_ranks kept_by mask_below mask_at masks_by masks
rounds_compute = true

unfoldable pub delays_compute : Bool
unfolding odd words initial_words on_right with_word moved_to played_to outcomes step arena kept_at good_by good_from good_with winning flag_by flags answer_by answer
delays_compute = true

unfoldable pub tables_compute : Bool
unfolding ours flagged lacks has bit allows
tables_compute = true

unfoldable pub judging_computes : Bool
unfolding word_ok action_ok node_ok ruling
judging_computes = true

unfoldable pub closing_computes : Bool
unfolding listed open_in close part within post
closing_computes = true

unfoldable pub exact_computes : Bool
unfolding least_flagged lowest_in action_at arrive advance turn_by play_by exact_choice exact worked
exact_computes = true

unfoldable pub reach_computes : Bool
unfolding is_target leads mark_in marks_after reached
reach_computes = true

unfoldable pub holding_computes : Bool
unfolding or_else held
holding_computes = true

unfoldable pub theory_computes : Bool
unfolding folds_compute answers_compute buffers_compute bytes_compute words_compute plays_compute rounds_compute delays_compute tables_compute judging_computes closing_computes exact_computes reach_computes holding_computes
theory_computes = true
