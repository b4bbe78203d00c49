-- A name for what tables of cases compute with: to unfold it is to unfold every definition on its line. Assumes nothing.
use mathlib.Core.Bool.{Bool, true}
use Rattle.table.specs.TableSheet.{table_layout, decode, table_nodes, numbers_ok, below_at, bytes_below, bodies_ok, shape_answer, some_flagged, table_answer}

unfoldable pub table_computes : Bool
unfolding table_layout decode table_nodes numbers_ok below_at bytes_below bodies_ok shape_answer some_flagged table_answer
table_computes = true
