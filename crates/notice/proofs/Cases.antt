-- Every case of specs/cases/Notices.antt holds of the definitions, by computation. Assumes nothing.
use mathlib.Core.Path.{◌≡◌, refl}
use mathlib.Core.List.{map}
use Rattle.notice.specs.cases.Notices.{computed, fork, fork_by, fork_ours, cases}
use Rattle.notice.proofs.Computing.{notice_computes}

pub cases_met : map computed cases ≡ cases
unfolding notice_computes computed fork fork_by fork_ours cases
cases_met = refl
