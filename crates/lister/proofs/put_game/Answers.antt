-- `put_game` meets its contract. Assumes nothing.
use mathlib.Core.Path.{sym}
use lib.Seq.{length-take-le}
use Rattle.lister.proofs.SolvedLaws.{solving}
use Rattle.lister.proofs.put_game.Goals as goal

pub slice_bounds-put_won-end : goal.slice_bounds-put_won-end
slice_bounds-put_won-end c = search solving

pub slice_bounds-put_won-end-in-Ok-Winning : goal.slice_bounds-put_won-end-in-Ok-Winning
slice_bounds-put_won-end-in-Ok-Winning c = sym (length-take-le _ _ (slice_bounds-put_won-end c))

pub returns-in-Ok-Winning-clause-text : goal.returns-in-Ok-Winning-clause-text
returns-in-Ok-Winning-clause-text c = search solving

pub slice_bounds-put_lost-end : goal.slice_bounds-put_lost-end
slice_bounds-put_lost-end c = search solving

pub slice_bounds-put_lost-end-in-Ok-Losing : goal.slice_bounds-put_lost-end-in-Ok-Losing
slice_bounds-put_lost-end-in-Ok-Losing c = sym (length-take-le _ _ (slice_bounds-put_lost-end c))

pub returns-in-Ok-Losing-clause-text : goal.returns-in-Ok-Losing-clause-text
returns-in-Ok-Losing-clause-text c = search solving
