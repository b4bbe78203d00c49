-- `sheet::size::power` meets its contract, by the laws of proofs/SizeLaws.antt. The loop has r at the power i, not cut off.
-- Assumes nothing.
use Prim.Native.Nat.{◌≤◌, ◌^◌}
use mathlib.Core.Path.{◌≡◌}
use Rattle.sheet.specs.code.Steps.{most_power}
use Rattle.sheet.proofs.size.power.Given as goal

abbrev pub invariant-loop : goal.invariant-loop
invariant-loop l = (l.counter ≤ l.exponent) × (l.r ≡ l.base ^ l.counter) × (l.r ≤ most_power)
