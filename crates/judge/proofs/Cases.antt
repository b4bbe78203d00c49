-- Every case of specs/cases/Tables.antt holds of the definitions, by computation. Assumes nothing.
use mathlib.Core.Path.{◌≡◌, refl}
use mathlib.Core.List.{map}
use Rattle.judge.specs.Judging.{judge_answer}
use Rattle.judge.specs.cases.Tables.{table_from, hall_by, hall_ours, hall_less, cases}
use Rattle.judge.proofs.Computing.{judge_computes}

pub cases_met : map (λ c. judge_answer c.sheet c.table) cases ≡ map (λ c. c.answer) cases
unfolding judge_computes table_from hall_by hall_ours hall_less cases
cases_met = refl
