-- `without_last` has divided as often as its loop has come round. Assumes nothing.
use Prim.Native.Nat.{◌/◌, ◌^◌}
use mathlib.Core.Path.{◌≡◌}
use Rattle.sheet.proofs.size.without_last.Given as goal

abbrev pub invariant-loop : goal.invariant-loop
invariant-loop l = l.rest ≡ l.n / l.base ^ l.counter
