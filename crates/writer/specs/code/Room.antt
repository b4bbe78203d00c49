-- How many bytes the bodies of a sheet may have together, so that two bytes can say its length. Assumes nothing.
use Rattle.std.specs.Prelude.{ℕ}

-- beside 15 bytes of contents
abbrev pub table_room : ℕ
table_room = 65520

-- beside 10
abbrev pub rank_room : ℕ
rank_room = 65525
