-- What the claim about lists of calls needs of a table sheet, whoever made it. Assumes nothing.
use Rattle.std.specs.Prelude.{suc, ◌≤◌, ◌≡◌}
use Rattle.theory.specs.Game.{Game}
use Rattle.theory.specs.Table.{TableFits, Judged}
use Rattle.sheet.specs.Limits.{most_delay}
use Rattle.table.specs.TableSheet.{TableSheet}

-- what the sheet says is sound for the game: its numbers are the game's, and its table fits and is judged
pub record Sound (G : Game) (x : TableSheet) : Type 0 where
  pub actions : x.actions ≡ G.actions
  pub highest : suc x.highest ≡ G.positions
  pub short_delay : x.delay ≤ most_delay
  pub fits : TableFits G x.delay x.table
  pub judged : Judged G x.delay x.table
