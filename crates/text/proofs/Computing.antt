-- Names for what a table of cases computes with: to unfold one of them is to unfold every definition on its line. Assumes nothing.
use mathlib.Core.Bool.{Bool, true}
use Rattle.theory.proofs.Computing.{bytes_compute, words_compute, tables_compute}
use Rattle.text.specs.Page.{texts_from}
use Rattle.text.specs.Numbers.{glyph, decimal_by, decimal_of, short_at, shorts_text}
use Rattle.text.specs.Fields.{digit_text, word_text, action_text, set_text, field_text, position_text, node_text}
use Rattle.text.specs.Lines.{field_line, losing_line, refused_line, winning_line, head_line, start_line, allow_line, rank_line, start_entry, start_at, start_lines, allow_entry, allow_at, allow_lines, rank_entry, rank_at, rank_lines}

unfoldable pub numbers_compute : Bool
unfolding glyph decimal_by decimal_of short_at shorts_text
numbers_compute = true

unfoldable pub fields_compute : Bool
unfolding digit_text word_text action_text set_text field_text position_text node_text
fields_compute = true

unfoldable pub lines_compute : Bool
unfolding field_line losing_line refused_line winning_line head_line start_line allow_line rank_line start_entry start_at start_lines allow_entry allow_at allow_lines rank_entry rank_at rank_lines
lines_compute = true

unfoldable pub text_computes : Bool
unfolding bytes_compute words_compute tables_compute texts_from numbers_compute fields_compute lines_compute
text_computes = true
