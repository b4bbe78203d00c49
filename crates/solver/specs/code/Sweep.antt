-- What a node of rank n spoils, and all nodes of that rank. Assumes nothing.
use Rattle.std.specs.Prelude.{ℕ, ◌*◌, ◌/◌, ◌%◌, ◌≤◌, ◌<◌, ◌≡◌, Bool, true, false, get_or}
use mathlib.Core.List.{List, Memᴰ}
use Rattle.theory.specs.Game.{to, Game}
use Rattle.sheet.specs.Limits.{most_actions, most_nodes}
use Rattle.sheet.specs.code.Arrays.{to_at, line_count}
use Rattle.walk.specs.declared.level.Level.{Level}
use Rattle.solver.specs.code.Sizes.{most_cells}
use Rattle.solver.specs.code.Work.{Work, steps_to, marks_to}
use Rattle.solver.specs.code.Chains.{head_of, chain, Linked, cell_key}
use Rattle.solver.specs.code.Spread.{Spot, even_nodes, odd_nodes}

-- the U body, and the chains of its lines and of the grid's cells
pub record Index : Type 0 where
  pub moves : List ℕ
  pub reaching : List ℕ
  pub lines : List ℕ
  pub leading : List ℕ
  pub cells : List ℕ

abbrev pub index : List ℕ → List ℕ → List ℕ → List ℕ → List ℕ → Index
index u lh l ch c = record { moves = u; reaching = lh; lines = l; leading = ch; cells = c }

-- the chains of the lines of a U body and of a grid's cells, where the delay asks for them
pub record Indexed (u : List ℕ) (g : List (List ℕ)) (delay : ℕ) (x : Index) : Type 0 where
  pub body : x.moves ≡ u
  pub lines_linked : 2 ≤ delay → Linked (to_at u) (line_count u) x.reaching x.lines
  pub cells_linked : 2 ≤ delay → Linked (cell_key g) most_cells x.leading x.cells

-- a level with pending words: a word is its oldest action and one of so many younger words
pub record Fitted (l : Level) (younger : ℕ) : Type 0 where
  pub some_action : 0 < l.actions
  pub few_actions : l.actions ≤ most_actions
  pub some_younger : 0 < younger
  pub few_words : l.words ≤ most_nodes
  pub whole : l.words ≡ younger * l.actions

-- the last action of node j's word, and the others
abbrev pub spot_at : Level → ℕ → ℕ → ℕ → Spot
spot_at l younger n j =
    record {
      n = n;
      words = l.words;
      younger = younger;
      actions = l.actions;
      word = j % l.words;
      rest = (j % l.words) / l.actions;
      action = (j % l.words) % l.actions;
    }

-- by parity (true: odd), the nodes of which a node at position q with that spot is an outcome
unfoldable pub nodes_before : Bool → Index → Spot → ℕ → List ℕ
nodes_before true x s q = odd_nodes x.moves x.lines x.reaching x.cells s (head_of x.leading q)
nodes_before false x s q = even_nodes x.moves x.lines x.leading x.cells s (head_of x.reaching q)

unfoldable pub spread_to : Index → Level → ℕ → ℕ → Work → ℕ → Work
spread_to x l younger n w j =
    marks_to n ((j % l.words) % l.actions) w (nodes_before l.odd x (spot_at l younger n j) (j / l.words))

-- so many entries of the queue, from one on
abbrev pub sweep_to : Index → Level → ℕ → ℕ → Work → ℕ → ℕ → Work
sweep_to x l younger n = steps_to (λ w at. spread_to x l younger n w (get_or w.queue at 0))

-- the chains are those of a game: of the moves to each position, and of the actions that lead to it
pub record Reverses (G : Game) (x : Index) : Type 0 where
  pub move : (q r i : ℕ) → Memᴰ i (chain x.lines (head_of x.reaching r)) → get_or x.moves (2 * i) 0 ≡ q → r < G.positions
      → Memᴰ r (G.moves q)
  pub line : (q r : ℕ) → Memᴰ r (G.moves q)
      → (i : ℕ) × Memᴰ i (chain x.lines (head_of x.reaching r)) × (get_or x.moves (2 * i) 0 ≡ q)
  pub target : (t c : ℕ) → Memᴰ c (chain x.cells (head_of x.leading t)) → t < G.positions
      → G.target (c / most_actions) (c % most_actions) ≡ to t
  pub cell : (q h t : ℕ) → G.target q h ≡ to t
      → (c : ℕ) × Memᴰ c (chain x.cells (head_of x.leading t)) × (c / most_actions ≡ q) × (c % most_actions ≡ h)
