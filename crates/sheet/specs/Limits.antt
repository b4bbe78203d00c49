-- Document 01's numbers for game sheets, named once. Assumes nothing.
use Rattle.std.specs.Prelude.{ℕ, ◌^◌}

-- an offset and a length have two bytes each ("each of two bytes, low byte first")
abbrev pub width : ℕ
width = 2

-- the first offset of a game sheet with G: "the first offset is 20 or 25"
abbrev pub gated_contents : ℕ
gated_contents = 25

-- "positions not 1 to 256"
abbrev pub most_positions : ℕ
most_positions = 256

-- "A is the number of commands, 1 to 8"; a row of the grid has as many targets
abbrev pub most_actions : ℕ
most_actions = 8

-- "Lag d, 0 to 6"
abbrev pub most_delay : ℕ
most_delay = 6

-- "over 4,096 moves"
abbrev pub most_moves : ℕ
most_moves = 4096

-- "positions × A^L over 16,384"
abbrev pub most_nodes : ℕ
most_nodes = 16384

-- the most first words: three actions out of the most
abbrev pub most_words : ℕ
most_words = most_actions ^ 3
