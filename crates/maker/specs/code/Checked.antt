-- Checks 8 and 9 in the code's own numbers, and what is known of the sheet and the buffers once checks have passed. Assumes nothing.
use Rattle.std.specs.Prelude.{ℕ, ◌+◌, ◌-◌, ◌*◌, ◌^◌, ◌≤◌, ◌≡◌, List, [], ◌∷◌, leb, take}
use Rattle.theory.specs.Fold.{both}
use Rattle.theory.specs.Answer.{Answer, accepted, check}
use Rattle.theory.specs.Strategy.{initial_length}
use Rattle.theory.specs.Rounds.{masks, final_ranks}
use Rattle.theory.specs.Delay.{arena}
use Rattle.sheet.specs.Size.{nodes_of}
use Rattle.sheet.specs.Bodies.{delay_of}
use Rattle.reader.specs.Reading.{read_answer}
use Rattle.sheet.specs.SheetGame.{game_of}
use Rattle.reader.specs.declared.reading.Layout.{Layout}
use Rattle.maker.specs.Making.{output_size}

-- the nodes at delay m and the first words at the asked one, by a layout's numbers
abbrev pub nodes_at : Layout → ℕ → ℕ
nodes_at l m = nodes_of l.positions.size l.actions m

abbrev pub words_at : Layout → ℕ
words_at l = l.actions ^ initial_length l.delay

-- the S body at delay m
unfoldable pub header_bytes : Layout → ℕ → List ℕ
header_bytes l m = l.start ∷ l.actions ∷ m ∷ (l.positions.size - 1) ∷ []

-- checks 8 and 9 of so many nodes and first words
unfoldable pub room_answer : ℕ → ℕ → ℕ → ℕ → ℕ → Answer (Unit {0})
room_answer nodes words masks_length ranks_length output_length =
    check (both (leb nodes masks_length) (leb nodes ranks_length)) 8
    (check (leb (19 + words + 2 * nodes) output_length) 9 (accepted tt))

-- a game sheet that was read, and buffers with room for making from it
pub record Ready (s : List ℕ) (l : Layout) (masks_length ranks_length output_length : ℕ) : Type 0 where
  pub reads : read_answer s ≡ accepted l
  pub masks_room : (arena (game_of s) (delay_of s)).nodes ≤ masks_length
  pub ranks_room : (arena (game_of s) (delay_of s)).nodes ≤ ranks_length
  pub output_room : output_size (game_of s) (delay_of s) ≤ output_length

-- a game sheet that was read, and buffers that begin with its masks and ranks at the asked delay
pub record HasTable (s : List ℕ) (l : Layout) (masks_now ranks_now : List ℕ) : Type 0 where
  pub reads : read_answer s ≡ accepted l
  pub masks : take (arena (game_of s) (delay_of s)).nodes masks_now ≡ masks (arena (game_of s) (delay_of s))
  pub ranks : take (arena (game_of s) (delay_of s)).nodes ranks_now ≡ final_ranks (arena (game_of s) (delay_of s))
