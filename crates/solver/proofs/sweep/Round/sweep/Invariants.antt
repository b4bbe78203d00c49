-- `sweep` meets its contract. What is left to sweep from here on is all that was to be swept. Assumes nothing.
use Rattle.std.proofs.Common.{◌≡◌, ◌-◌}
use Rattle.solver.specs.code.Sweep.{sweep_to}
use Rattle.solver.specs.code.Views.{indexed, listed, Noted, Same}
use Rattle.solver.proofs.sweep.Round.sweep.Given as goal

abbrev pub invariant-loop-at : goal.invariant-loop-at
invariant-loop-at l =
    let s = l.self in
    let r = l.at-iterator in
    let e = l.fn.entries in
    Same l.initial.work l.work
    × Noted l.index s.level s.younger l.seen l.work
    × (sweep_to (indexed l.index) s.level s.younger s.n (listed l.initial.work) e.start (e.end - e.start)
    ≡ sweep_to (indexed l.index) s.level s.younger s.n (listed l.work) r.start (r.end - r.start))
    × (r.end ≡ e.end)
