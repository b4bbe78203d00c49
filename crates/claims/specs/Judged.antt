-- W-202 over bytes, as the customer reads it: what a yes to a table made elsewhere means, and what a no names. s is the game sheet, t the
-- table sheet. Assumes nothing.
use Rattle.std.specs.Prelude.{ℕ, ◌<◌, ◌≡◌, true, false, List, ◌⊎◌}
use Rattle.theory.specs.Game.{to}
use Rattle.theory.specs.Play.{Play, last, Rule, IsRule}
use Rattle.theory.specs.Strategy.{Strategy, choice, Consistent, Wins}
use Rattle.theory.specs.Infinite.{Infinite, Outcome, Against, AllSafe}
use Rattle.theory.specs.Rounds.{spoilt_by}
use Rattle.theory.specs.Delay.{arena, initial_words, good_from}
use Rattle.theory.specs.Table.{ours, flagged, lacks, has, allows, Inside, Obeys}
use Rattle.sheet.specs.Bodies.{delay_of}
use Rattle.sheet.specs.SheetGame.{game_of}
use Rattle.table.specs.TableSheet.{decode}

-- a strategy of Definition 5, with whatever memory, that chooses out of the table
abbrev pub Steered : (s t : List ℕ) → Strategy (game_of s).actions (delay_of s) → Type 0
Steered s t σ = Obeys (game_of s) (delay_of s) σ (decode t).table

-- of one such strategy: "every play so steered is winning at that lag"
pub record Winning (s : List ℕ) (σ : Strategy (game_of s).actions (delay_of s)) : Type 0 where
  pub wins : Wins (game_of s) (delay_of s) σ
  -- its finite plays: no position is unsafe, and the command that is played at an own one is permitted there
  pub safe : (π : Play) → Consistent (game_of s) (delay_of s) σ π → (game_of s).safe (last (game_of s) π) ≡ true
  pub permitted : (π : Play) → Consistent (game_of s) (delay_of s) σ π → (game_of s).controller (last (game_of s) π) ≡ true
      → (q : ℕ) × ((game_of s).target (last (game_of s) π) (choice (delay_of s) σ π) ≡ to q)
  -- its infinite plays: none has an unsafe position, and against every rule of the yard there is one
  pub always_safe : (π : Infinite) → Outcome (game_of s) (delay_of s) σ π → AllSafe (game_of s) π
  pub endless : (rule : Rule) → IsRule (game_of s) rule
      → (π : Infinite) × Outcome (game_of s) (delay_of s) σ π × Against rule π × AllSafe (game_of s) π

pub record Yes (s t : List ℕ) : Type 0 where
  pub winning : (σ : Strategy (game_of s).actions (delay_of s)) → Steered s t σ → Winning s σ
  -- it is about something: the table can be followed
  pub some : (σ : Strategy (game_of s).actions (delay_of s)) × Steered s t σ
  -- "its masks lie inside ours", and so do its first words
  pub inside : Inside (decode t).table (ours (game_of s) (delay_of s))

-- "every flagged first word is good" fails at v
pub record OffendingWord (s t : List ℕ) (v : ℕ) : Type 0 where
  pub word : v < initial_words (game_of s) (delay_of s)
  pub flagged : flagged (decode t).table v ≡ true
  pub bad : good_from (game_of s) (delay_of s) (has (decode t).table) v ≡ false

-- pair k has a mask, and the wrong side, an unsafe position or a spoilt command in it
pub record OffendingPair (s t : List ℕ) (k : ℕ) : Type 0 where
  pub pair : k < (arena (game_of s) (delay_of s)).nodes
  pub mask : has (decode t).table k ≡ true
  pub bad : ((arena (game_of s) (delay_of s)).right k ≡ false)
      ⊎ (((arena (game_of s) (delay_of s)).safe k ≡ false)
      ⊎ ((c : ℕ) × (allows (decode t).table k c ≡ true) × (spoilt_by (arena (game_of s) (delay_of s)) (lacks (decode t).table) k c ≡ true)))

-- "On no, give the first offending word"
pub record NoByWord (s t : List ℕ) (v : ℕ) : Type 0 where
  pub offends : OffendingWord s t v
  pub first : (w : ℕ) → w < v → OffendingWord s t w → ⊥

-- "else the first offending pair"
pub record NoByPair (s t : List ℕ) (k : ℕ) : Type 0 where
  pub no_word : (w : ℕ) → OffendingWord s t w → ⊥
  pub offends : OffendingPair s t k
  pub first : (j : ℕ) → j < k → OffendingPair s t j → ⊥
