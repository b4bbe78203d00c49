-- `spoil_row` meets its contract. What is left from here on is all that was to be done. Assumes nothing.
use Rattle.std.proofs.Common.{◌≡◌, ◌+◌, ◌-◌}
use Rattle.solver.specs.code.Work.{spoil_row_to}
use Rattle.solver.specs.code.Views.{listed, Same}
use Rattle.solver.proofs.mark.Worklist.spoil_row.Given as goal

abbrev pub invariant-loop-i : goal.invariant-loop-i
invariant-loop-i l =
    Same l.initial.self l.self
    × (spoil_row_to l.n (listed l.initial.self) l.k l.count ≡ spoil_row_to l.n (listed l.self) l.i (l.k + l.count - l.i))
