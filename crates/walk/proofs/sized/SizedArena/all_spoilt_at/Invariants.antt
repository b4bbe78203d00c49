-- `all_spoilt_at` meets its contract. Every action passed is spoilt; no line passed spoils the action at hand, so that what is left to
-- search has the same last one. Assumes nothing.
use Rattle.std.proofs.Common.{◌≡◌, true}
use Rattle.theory.specs.Fold.{all_below}
use Rattle.walk.specs.code.Arenas.{last_below, spoilt_at}
use Rattle.walk.proofs.sized.SizedArena.all_spoilt_at.Given as goal

abbrev pub invariant-moves : goal.invariant-moves
invariant-moves l = last_below l.self.arena.now l.fallen l.x l.line ≡ last_below l.self.arena.now l.fallen l.x l.x.end

abbrev pub invariant-actions : goal.invariant-actions
invariant-actions l = all_below (spoilt_at l.self.arena.now l.fallen l.k) l.c ≡ true
