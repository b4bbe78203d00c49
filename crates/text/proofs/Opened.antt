-- Names for what the proofs of the writers open: to unfold one of them is to unfold every definition on its line. Assumes nothing.
use mathlib.Core.Bool.{Bool, true}
use Rattle.theory.specs.Bytes.{bytes_of}
use Rattle.text.specs.Page.{puts}
use Rattle.text.specs.Numbers.{short_at, shorts_text}
use Rattle.text.specs.Fields.{digit_text, word_text, action_text, set_text, field_text, position_text, node_text}
use Rattle.text.specs.Lines.{field_line, losing_line, refused_line, winning_line, head_line, start_line, allow_line, rank_line, start_entry, allow_entry, rank_entry}

unfoldable pub bytes_open : Bool
unfolding puts bytes_of short_at shorts_text
bytes_open = true

unfoldable pub digits_open : Bool
unfolding digit_text word_text action_text set_text
digits_open = true

unfoldable pub lines_open : Bool
unfolding puts field_text position_text node_text field_line losing_line refused_line winning_line head_line start_line allow_line rank_line start_entry allow_entry rank_entry
lines_open = true
