-- `last_spoiling` meets its contract. No line passed spoils the choice: what is left to search has the same last one. Assumes nothing.
use Rattle.std.proofs.Common.{◌≡◌}
use Rattle.walk.specs.code.Arenas.{last_below}
use Rattle.walk.proofs.sized.SizedArena.last_spoiling.Given as goal

abbrev pub invariant-loop-line : goal.invariant-loop-line
invariant-loop-line l = last_below l.self.arena.now l.fallen l.x l.line ≡ last_below l.self.arena.now l.fallen l.x l.x.end
