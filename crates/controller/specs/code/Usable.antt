-- What the code takes from a readable table sheet: its numbers' ranges and its masks'. Assumes nothing.
use Rattle.std.specs.Prelude.{ℕ, ◌^◌, ◌≤◌, ◌<◌, get_or}
use Rattle.sheet.specs.Limits.{most_actions, most_delay}
use Rattle.table.specs.TableSheet.{TableSheet}

pub record Usable (x : TableSheet) : Type 0 where
  pub some_action : 0 < x.actions
  pub few_actions : x.actions ≤ most_actions
  pub short_delay : x.delay ≤ most_delay
  pub small_masks : (k : ℕ) → get_or x.table.masks k 0 < 2 ^ x.actions
