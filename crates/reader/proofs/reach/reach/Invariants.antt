-- `reach` meets its contract. The moves from the first `done` positions of the queue have been followed. Assumes nothing.
use Prim.Native.Nat.{◌-◌}
use Rattle.sheet.specs.Limits.{most_positions}
use Rattle.sheet.specs.SheetGame.{game_of}
use Rattle.reader.proofs.ReachLaws.{Searched}
use Rattle.reader.proofs.reach.reach.Given as goal

abbrev pub invariant-loop-done : goal.invariant-loop-done
invariant-loop-done l = Searched (game_of l.s) l.queue l.done

abbrev pub decreases-loop-done : goal.decreases-loop-done
decreases-loop-done l = most_positions - l.done
