-- What a level needs to be solved by the worklist, and what is left then. Assumes nothing.
use Rattle.std.specs.Prelude.{ℕ, ◌*◌, ◌/◌, ◌≤◌, ◌<◌, ◌≡◌, length, get_or}
use mathlib.Core.List.{List, Memᴰ}
use Rattle.theory.specs.Game.{Game, Legal}
use Rattle.theory.specs.Rounds.{Arena, final_ranks, masks}
use Rattle.sheet.specs.code.Arrays.{view_of, to_at, line_count}
use Rattle.walk.specs.declared.level.Level.{Level}
use Rattle.walk.specs.code.Nodes.{Sized}
use Rattle.solver.specs.code.Sweep.{Index, Fitted, Reverses}

-- the arrays hold a legal game, the chains are its own, and a word has an oldest action
pub record Workable (p : List ℕ) (g : List (List ℕ)) (u f : List ℕ) (x : Index) (l : Level) (younger : ℕ) : Type 0 where
  pub sized : Sized (length p) l
  pub fits : Fitted l younger
  pub legal : Legal (view_of p g u f l.start l.actions)
  pub reverses : Reverses (view_of p g u f l.start l.actions) x

-- the final ranks, all at most n, and the masks
pub record Worked (E : Arena) (after left : List ℕ) (n : ℕ) : Type 0 where
  pub ranks : after ≡ final_ranks E
  pub masks : left ≡ masks E
  pub most : (k : ℕ) → get_or (final_ranks E) k 0 ≤ n

-- the lines of a U body are the moves of a game
pub record Lines (G : Game) (u : List ℕ) : Type 0 where
  pub move : (i : ℕ) → i < line_count u → Memᴰ (to_at u i) (G.moves (get_or u (2 * i) 0))
  pub line : (q r : ℕ) → Memᴰ r (G.moves q) → (i : ℕ) × (i < line_count u) × (get_or u (2 * i) 0 ≡ q) × (to_at u i ≡ r)

-- a level that can be solved, by the worklist where words are pending
pub record Levelable (p : List ℕ) (g : List (List ℕ)) (u f : List ℕ) (x : Index) (l : Level) : Type 0 where
  pub sized : Sized (length p) l
  pub work : (l.words ≡ 1 → ⊥) → Workable p g u f x l (l.words / l.actions)
