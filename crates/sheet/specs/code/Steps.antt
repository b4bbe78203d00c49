-- Powers, as the code counts with them. Assumes nothing.
use Rattle.std.specs.Prelude.{ℕ, ◌^◌, cond, leb}

-- where powers are cut off, far above the most nodes
abbrev pub most_power : ℕ
most_power = 65536

-- a power, cut off where it is more than any size asked about
unfoldable pub power_to : ℕ → ℕ → ℕ
power_to b e = cond (leb (b ^ e) most_power) (b ^ e) most_power
