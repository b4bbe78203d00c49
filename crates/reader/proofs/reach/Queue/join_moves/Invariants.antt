-- `join_moves` meets its contract. The moves on the lines passed have joined. Assumes nothing.
use Prim.Native.Nat.{◌-◌, ◌≤◌}
use Rattle.reader.specs.code.Reaching.{Grown, by_line}
use Rattle.reader.proofs.reach.Queue.join_moves.Given as goal

abbrev pub invariant-loop-line : goal.invariant-loop-line
invariant-loop-line l = (l.line - l.first ≤ l.end - l.first) × Grown (by_line l.u l.first l.line) l.initial.self l.self
