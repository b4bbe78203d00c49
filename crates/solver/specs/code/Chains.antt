-- Reverse indices as chains. A key has the places 0, 1, .. below a count that have it; a chain leads from the last of them to
-- the one before. A link is a place + 1, and 0 is the end. Assumes nothing.
use Rattle.std.specs.Prelude.{ℕ, zero, suc, ◌/◌, ◌%◌, ◌≤◌, ◌<◌, ◌≡◌, cond, List, [], ◌∷◌, eqb, ltb, length, get_or}
use Rattle.sheet.specs.Limits.{most_actions}
use Rattle.sheet.specs.code.Arrays.{index_entries, mark_of, target_at}

-- the link to the last place below n with key x
unfoldable pub last_of : (ℕ → ℕ) → ℕ → ℕ → ℕ
last_of key x zero = 0
last_of key x (suc n) = cond (eqb (key n) x) (suc n) (last_of key x n)

-- the places of a chain that starts with link e, at most so many
unfoldable pub chain_of : List ℕ → ℕ → ℕ → List ℕ
chain_of links zero e = []
chain_of links (suc most) zero = []
chain_of links (suc most) (suc i) = i ∷ chain_of links most (get_or links i 0)

-- where links go down, no chain is longer than its first link
unfoldable pub chain : List ℕ → ℕ → List ℕ
chain links e = chain_of links e e

-- the first link of a key's chain; there is none for keys above those that there can be
unfoldable pub head_of : List ℕ → ℕ → ℕ
head_of heads x = cond (ltb x index_entries) (get_or heads x 0) 0

-- the chains of the first n places, by their keys; links of other places are 0
pub record Linked (key : ℕ → ℕ) (n : ℕ) (heads links : List ℕ) : Type 0 where
  pub size : length heads ≡ index_entries
  pub head : (x : ℕ) → x < index_entries → get_or heads x 0 ≡ last_of key x n
  pub link : (i : ℕ) → i < n → key i < index_entries → get_or links i 0 ≡ last_of key (key i) i
  pub down : (i : ℕ) → get_or links i 0 ≤ i

-- no place is linked, whatever the keys
abbrev pub Unlinked : List ℕ → List ℕ → Type 0
Unlinked heads links = (f : ℕ → ℕ) → Linked f 0 heads links

-- the key of a cell of the grid, by its position and action: its target's mark
unfoldable pub cell_key : List (List ℕ) → ℕ → ℕ
cell_key g x = mark_of (target_at g (x / most_actions) (x % most_actions))
