-- How many pairs the numbers of a game sheet make. Assumes nothing.
use Rattle.std.specs.Prelude.{ℕ, ◌*◌, ◌/◌, ◌^◌}

-- the number of document 01's pairs: "positions × A^L", L the delay's half rounded down
unfoldable pub nodes_of : ℕ → ℕ → ℕ → ℕ
nodes_of positions actions delay = positions * actions ^ (delay / 2)
