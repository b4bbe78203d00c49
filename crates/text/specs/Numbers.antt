-- Numbers as text and as bytes. Assumes nothing.
use Rattle.std.specs.Prelude.{ℕ, zero, suc, ◌+◌, ◌/◌, ◌%◌, cond, List, [], ◌∷◌, ◌++◌, ltb, length, get_or}
use Rattle.text.specs.Page.{texts_from}
use Rattle.theory.specs.Bytes.{bytes_of}

-- the glyph of a digit: 0 to 9, then a to v; a question mark stands for what has none
unfoldable pub glyph : ℕ → ℕ
glyph d = cond (ltb d 10) (48 + d) (cond (ltb d 32) (87 + d) 63)

-- the decimal digits of n without leading zeros, where the fuel exceeds n
unfoldable pub decimal_by : ℕ → ℕ → List ℕ
decimal_by zero n = []
decimal_by (suc fuel) n = let more = decimal_by fuel (n / 10) ++ (glyph (n % 10) ∷ []) in cond (ltb n 10) (glyph n ∷ []) more

unfoldable pub decimal_of : ℕ → List ℕ
decimal_of n = decimal_by (suc n) n

-- every entry in two bytes
unfoldable pub short_at : List ℕ → ℕ → List ℕ
short_at xs k = bytes_of 2 (get_or xs k 0)

unfoldable pub shorts_text : List ℕ → List ℕ
shorts_text xs = texts_from (short_at xs) 0 (length xs)
