-- Numbers as bytes, "low byte first": the vocabulary of every sheet form. Assumes nothing.
use Rattle.std.specs.Prelude.{ℕ, zero, suc, ◌/◌, ◌%◌, ◌+◌, ◌*◌, List, [], ◌∷◌, get_or}

-- the lowest w bytes of n, low byte first
unfoldable pub bytes_of : ℕ → ℕ → List ℕ
bytes_of zero n = []
bytes_of (suc w) n = n % 256 ∷ bytes_of w (n / 256)

-- the number of w bytes at i, "low byte first"; a byte past the end reads as 0
unfoldable pub number_at : ℕ → List ℕ → ℕ → ℕ
number_at zero s i = 0
number_at (suc w) s i = get_or s i 0 + 256 * number_at w s (suc i)
