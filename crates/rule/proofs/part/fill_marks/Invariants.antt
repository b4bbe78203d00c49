-- `fill_marks` meets its contract. The marks of the nodes passed are in place. Assumes nothing.
use Rattle.std.proofs.Common.{◌≡◌, length}
use Rattle.theory.proofs.Filling.{filled}
use Rattle.rule.specs.code.Parts.{mark_at}
use Rattle.rule.proofs.part.fill_marks.Given as goal

abbrev pub invariant-loop-k : goal.invariant-loop-k
invariant-loop-k l = (l.k-end ≡ length l.masks) × (l.marks ≡ filled (mark_at l.masks) l.k l.initial.marks)
