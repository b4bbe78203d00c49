-- The numbers of one delay, and the arena of the arrays at them: p is the P body, g the grid of targets, u the U body, f the index
-- of first lines. Assumes nothing.
use Rattle.std.specs.Prelude.{ℕ, ◌*◌, ◌/◌, ◌^◌, ◌≤◌, min, List}
use Rattle.theory.specs.Rounds.{Arena}
use Rattle.theory.specs.Delay.{odd, arena_by}
use Rattle.sheet.specs.Limits.{most_positions, most_actions, most_nodes}
use Rattle.sheet.specs.Size.{nodes_of}
use Rattle.sheet.specs.code.Steps.{power_to, most_power}
use Rattle.sheet.specs.code.Arrays.{view_of}
use Rattle.walk.specs.declared.level.Level.{Level}

-- the numbers of a delay: "positions × A^L" pairs, A^L words pending at each position
abbrev pub level_at : ℕ → ℕ → ℕ → ℕ → Level
level_at positions start actions delay =
    record {
      start = start;
      actions = actions;
      words = actions ^ (delay / 2);
      odd = odd delay;
      nodes = nodes_of positions actions delay;
    }

-- the same for any numbers, positions and powers cut off
abbrev pub level_to : ℕ → ℕ → ℕ → ℕ → Level
level_to positions start actions delay =
    record {
      start = start;
      actions = actions;
      words = power_to actions (delay / 2);
      odd = odd delay;
      nodes = min positions most_power * power_to actions (delay / 2);
    }

-- what checks 2, 3 and 7 leave of a sheet's numbers: nothing is cut off there
pub record Room (positions actions delay : ℕ) : Type 0 where
  pub some_position : 1 ≤ positions
  pub few_positions : positions ≤ most_positions
  pub some_action : 1 ≤ actions
  pub few_actions : actions ≤ most_actions
  pub few_nodes : nodes_of positions actions delay ≤ most_nodes

-- the arena of the arrays' game at a level's numbers
unfoldable pub arena_of : List ℕ → List (List ℕ) → List ℕ → List ℕ → Level → Arena
arena_of p g u f l = arena_by l.odd (view_of p g u f l.start l.actions) l.words
