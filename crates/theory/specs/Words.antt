-- Words in base A ("the word read in base A, oldest command leading"). A word of n actions is a number below A ^ n; joining an
-- action c to the word w gives w * A + c. Assumes nothing.
use Rattle.std.specs.Prelude.{ℕ, zero, suc, ◌+◌, ◌*◌, ◌/◌, ◌%◌, cond, ltb}

-- the word of the n actions g 0, g 1, .., the oldest first
unfoldable pub encode : ℕ → (ℕ → ℕ) → ℕ → ℕ
encode A g zero = 0
encode A g (suc n) = encode A g n * A + g n

-- action number i, from 0 and oldest first, of the word v of n actions
unfoldable pub digit : ℕ → ℕ → ℕ → ℕ → ℕ
digit A zero v i = 0
digit A (suc n) v i = cond (ltb i n) (digit A n (v / A) i) (v % A)
