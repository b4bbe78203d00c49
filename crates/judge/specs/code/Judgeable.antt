-- What is known of the two sheets once every check has passed. Assumes nothing.
use Rattle.std.specs.Prelude.{ℕ, ◌+◌, ◌≡◌, Bool, List, eqb}
use Rattle.theory.specs.Fold.{both}
use Rattle.theory.specs.Answer.{accepted}
use Rattle.theory.specs.Table.{Table, TableFits}
use Rattle.sheet.specs.Bodies.{delay_of}
use Rattle.reader.specs.Reading.{read_answer}
use Rattle.sheet.specs.SheetGame.{game_of}
use Rattle.reader.specs.declared.reading.Layout.{Layout}
use Rattle.table.specs.declared.reading.TableLayout.{TableLayout}

-- the table of a W and a T body
abbrev pub table_with : List ℕ → List ℕ → Table
table_with flags masks = record { flags = flags; masks = masks }

-- check 21 over the two layouts
unfoldable pub layouts_agree : Layout → TableLayout → Bool
layouts_agree l x =
    both (eqb x.start l.start)
    (both (eqb x.actions l.actions) (both (eqb x.delay l.delay) (eqb (x.highest + 1) l.positions.size)))

-- a game sheet that was read, and a table of its sizes and ranges
pub record Judgeable (s : List ℕ) (l : Layout) (flags masks : List ℕ) : Type 0 where
  pub reads : read_answer s ≡ accepted l
  pub fits : TableFits (game_of s) (delay_of s) (table_with flags masks)
