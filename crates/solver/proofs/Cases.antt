-- The table of specs/cases/Solving.antt holds, by computation from the definitions. Assumes nothing.
use mathlib.Core.Path.{◌≡◌, refl}
use mathlib.Core.List.{map}
use Rattle.solver.specs.Solving.{solve_answer, solved_delay, masks_left, ranks_left}
use Rattle.solver.specs.cases.Solving.{Case, effect, solved, unsolved, cases}
use Rattle.reader.proofs.Computing.{sheet_computes}

pub effects_met : map (λ (x : Case). effect x.sheet x.masks_room x.ranks_room) cases ≡ map (λ (x : Case). x.effect) cases
unfolding sheet_computes solve_answer solved_delay masks_left ranks_left effect solved unsolved cases
effects_met = refl
