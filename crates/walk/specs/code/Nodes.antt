-- Which levels are small enough to walk, which buffers fit them, and which nodes exist. Assumes nothing.
use Rattle.std.specs.Prelude.{ℕ, ◌*◌, ◌≤◌, ◌<◌, ◌≡◌, Bool, eqb, leb, ltb}
use Rattle.theory.specs.Fold.{both}
use Rattle.sheet.specs.Limits.{most_positions, most_actions, most_nodes}
use Rattle.walk.specs.declared.level.Level.{Level}

-- a level whose nodes are few, for so many positions
pub record Sized (positions : ℕ) (l : Level) : Type 0 where
  pub few_positions : positions ≤ most_positions
  pub few_actions : l.actions ≤ most_actions
  pub some_word : 0 < l.words
  pub few_words : l.words ≤ most_nodes
  pub all_nodes : l.nodes ≡ positions * l.words
  pub few_nodes : l.nodes ≤ most_nodes

-- the same as a test
unfoldable pub is_sized : ℕ → Level → Bool
is_sized positions l =
    both (leb positions most_positions)
    (both (leb l.actions most_actions)
    (both (leb 1 l.words)
    (both (leb l.words most_nodes)
    (both (leb l.nodes most_nodes)
    (eqb l.nodes (positions * l.words))))))

-- a level that is small, and a buffer with an entry for each of its nodes
unfoldable pub is_fitted : ℕ → Level → ℕ → Bool
is_fitted positions l entries = both (is_sized positions l) (eqb entries l.nodes)

-- k is the number of a pair of that level
unfoldable pub is_node : ℕ → Level → ℕ → Bool
is_node positions l k = both (is_sized positions l) (ltb k l.nodes)
