-- The flags of first words that ranks give, for those who make tables and listings. Assumes nothing.
use Rattle.std.specs.Prelude.{ℕ, cond, List, leb, length}
use Rattle.theory.specs.Fold.{tabulate}
use Rattle.theory.specs.Answer.{Answer, refused, accepted}
use Rattle.theory.specs.Game.{Game}
use Rattle.theory.specs.Delay.{initial_words, good_with, flag_by}
use Rattle.sheet.specs.Bodies.{delay_of}
use Rattle.reader.specs.Reading.{read_answer}
use Rattle.sheet.specs.SheetGame.{game_of}
use Rattle.reader.specs.declared.reading.Layout.{Layout}
use Rattle.theory.specs.Buffer.{over}

-- "1 if good, else 0", by any ranks
unfoldable pub flag_with : Game → ℕ → List ℕ → ℕ → ℕ
flag_with G d ranks = flag_by (good_with G d ranks)

-- how many flags are written: one for each first word of an accepted sheet, where there is room for all; else none
unfoldable pub count_in : Answer Layout → ℕ → ℕ → ℕ
count_in (refused n) words room = 0
count_in (accepted l) words room = cond (leb words room) words 0

unfoldable pub flags_count : List ℕ → ℕ → ℕ
flags_count s room = count_in (read_answer s) (initial_words (game_of s) (delay_of s)) room

-- "in base-A order"; entries beyond are left
unfoldable pub flags_after : List ℕ → List ℕ → List ℕ → List ℕ
flags_after s ranks buffer = over (tabulate (flag_with (game_of s) (delay_of s) ranks) 0 (flags_count s (length buffer))) buffer
