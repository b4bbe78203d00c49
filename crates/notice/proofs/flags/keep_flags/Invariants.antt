-- `keep_flags` meets its contract. Assumes nothing.
use mathlib.Core.Path.{◌≡◌}
use Rattle.theory.proofs.Filling.{filled}
use Rattle.notice.specs.code.Left.{kept_flag_at}
use Rattle.notice.proofs.flags.keep_flags.Given as goal

abbrev pub invariant-loop-v : goal.invariant-loop-v
invariant-loop-v l = l.good ≡ filled (kept_flag_at l.shut l.flags l.initial.good) l.v l.initial.good
