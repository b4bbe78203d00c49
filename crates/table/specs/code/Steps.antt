-- Check 11 as the code divides it. Assumes nothing.
use Rattle.std.specs.Prelude.{Bool, leb}
use Rattle.theory.specs.Fold.{both}
use Rattle.sheet.specs.Limits.{most_actions, most_delay, most_nodes}
use Rattle.table.specs.TableSheet.{TableSheet, table_nodes, bodies_ok}

-- the numbers of the S body one by one
unfoldable pub ranges_ok : TableSheet → Bool
ranges_ok x =
    both (leb 1 x.actions) (both (leb x.actions most_actions) (both (leb x.delay most_delay) (leb x.start x.highest)))

-- how many nodes there are, and the other bodies
unfoldable pub filled_ok : TableSheet → Bool
filled_ok x = both (leb (table_nodes x) most_nodes) (bodies_ok x)
