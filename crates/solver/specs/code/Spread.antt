-- The nodes that a fallen node is an outcome of, as the chains give them. Assumes nothing.
use Rattle.std.specs.Prelude.{ℕ, ◌+◌, ◌*◌, ◌/◌, ◌%◌, ◌<◌, ◌≡◌, List, [], ◌∷◌, ◌++◌, map, get_or}
use Rattle.sheet.specs.Limits.{most_actions}
use Rattle.solver.specs.code.Chains.{chain, head_of}

-- what falls with a node in round n: an action, chosen where a word's younger actions are rest; the node's word is both
pub record Spot : Type 0 where
  pub n : ℕ
  pub words : ℕ
  pub younger : ℕ
  pub actions : ℕ
  pub word : ℕ
  pub rest : ℕ
  pub action : ℕ

abbrev pub spot : ℕ → ℕ → ℕ → ℕ → ℕ → ℕ → ℕ → Spot
spot n words younger actions word rest action =
    record { n = n; words = words; younger = younger; actions = actions; word = word; rest = rest; action = action }

-- a spot's word is the rest and the action
pub record Spotted (s : Spot) : Type 0 where
  pub word_inside : s.word < s.words
  pub rest_is : s.rest ≡ s.word / s.actions
  pub action_is : s.action ≡ s.word % s.actions

-- the node of a cell's position, whose oldest action is the cell's
unfoldable pub caller_at : Spot → ℕ → ℕ
caller_at s x = (x / most_actions) * s.words + (x % most_actions) * s.younger + s.rest

-- the word with a cell's action as its oldest
unfoldable pub word_at : Spot → ℕ → ℕ
word_at s x = (x % most_actions) * s.younger + s.rest

unfoldable pub callers : List ℕ → Spot → ℕ → List ℕ
callers cells s e = map (caller_at s) (chain cells e)

-- the node of a line's position before the move
unfoldable pub source_at : List ℕ → Spot → ℕ → ℕ → ℕ
source_at u s word i = get_or u (2 * i) 0 * s.words + word

unfoldable pub sources : List ℕ → List ℕ → Spot → ℕ → ℕ → List ℕ
sources u lines s word e = map (source_at u s word) (chain lines e)

unfoldable pub gather : (ℕ → List ℕ) → List ℕ → List ℕ
gather f [] = []
gather f (x ∷ xs) = f x ++ gather f xs

-- even delays: a caller's oldest action leads to a position, and a move from there to the fallen node's position
unfoldable pub even_nodes : List ℕ → List ℕ → List ℕ → List ℕ → Spot → ℕ → List ℕ
even_nodes u lines heads cells s e = gather (λ i. callers cells s (head_of heads (get_or u (2 * i) 0))) (chain lines e)

-- odd delays: a move leads to a position, and the oldest action from there to the fallen node's position
unfoldable pub odd_nodes : List ℕ → List ℕ → List ℕ → List ℕ → Spot → ℕ → List ℕ
odd_nodes u lines heads cells s e =
    gather (λ x. sources u lines s (word_at s x) (head_of heads (x / most_actions))) (chain cells e)
