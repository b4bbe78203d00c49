-- The parts of a listing by the numbers of a layout, as the code writes them. Assumes nothing.
use Rattle.std.specs.Prelude.{ℕ, List}
use Rattle.theory.specs.Fold.{tabulate}
use Rattle.theory.specs.Strategy.{initial_length}
use Rattle.sheet.specs.Bodies.{delay_of}
use Rattle.sheet.specs.SheetGame.{game_of}
use Rattle.reader.specs.declared.reading.Layout.{Layout}
use Rattle.text.specs.Lines.{start_lines}
use Rattle.region.specs.code.Flags.{flag_with, flags_count}
use Rattle.lister.specs.Listing.{won_text, lost_text}

-- the flags that the ranks give the first words of a sheet, in a buffer of so many entries
unfoldable pub flags_in : List ℕ → List ℕ → ℕ → List ℕ
flags_in s ranks room = tabulate (flag_with (game_of s) (delay_of s) ranks) 0 (flags_count s room)

-- the lines of these flags, the text of a winning game and that of a game that loses at delay m
abbrev pub starts_by : Layout → List ℕ → List ℕ
starts_by l flags = start_lines l.actions (initial_length l.delay) flags

abbrev pub won_by : Layout → List ℕ → List ℕ → List ℕ
won_by l flags masks = won_text l.delay l.positions.size l.actions l.reached flags masks

abbrev pub lost_by : Layout → ℕ → List ℕ → List ℕ
lost_by l m ranks = lost_text l.delay l.positions.size l.actions l.reached m ranks
