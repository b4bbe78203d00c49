-- `fill_flags` meets its contract. The flags of the words passed are in place. Assumes nothing.
use Rattle.std.proofs.Common.{◌≡◌}
use Rattle.theory.proofs.Filling.{filled}
use Rattle.theory.specs.Delay.{flag_by}
use Rattle.region.specs.code.Kept.{good}
use Rattle.region.proofs.words.SizedKept.fill_flags.Given as goal

abbrev pub invariant-loop-v : goal.invariant-loop-v
invariant-loop-v l = l.flags ≡ filled (flag_by (good l.self.kept.now)) l.v l.initial.flags
