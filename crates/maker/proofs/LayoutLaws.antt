-- The numbers of an accepted game sheet's layout are small, and the game's own. Assumes nothing.
use Prim.Native.Nat.{ℕ, ◌≤◌}
use mathlib.Core.Path.{◌≡◌, sym, ◌∙◌, ap}
use mathlib.Core.List.{List}
use Rattle.theory.specs.Answer.{accepted}
use Rattle.theory.specs.Delay.{initial_words, arena}
use Rattle.sheet.specs.Limits.{most_positions, most_actions, most_delay}
use Rattle.sheet.specs.Bodies.{delay_of}
use Rattle.reader.specs.Reading.{read_answer}
use Rattle.sheet.specs.SheetGame.{game_of}
use Rattle.reader.specs.declared.reading.Layout.{Layout}
use Rattle.reader.proofs.Accepted.{read_is, ranges, carries, arena_nodes}
use Rattle.writer.specs.SheetBytes.{header_of}
use Rattle.maker.specs.code.Checked.{nodes_at, words_at, header_bytes}

-- what checks 2 and 3 leave of a layout's numbers
pub record Small (l : Layout) : Type 0 where
  pub some_position : 1 ≤ l.positions.size
  pub few_positions : l.positions.size ≤ most_positions
  pub few_actions : l.actions ≤ most_actions
  pub short_delay : l.delay ≤ most_delay

module _ (s : List ℕ) (l : Layout) (e : read_answer s ≡ accepted l) where
  pub small : Small l
  small =
      let c = carries s l e in
      let r = ranges s (read_is s l e).0 in
      record {
        some_position = rw c.positions_size r.some_position;
        few_positions = rw c.positions_size r.few_positions;
        few_actions = rw c.actions r.few_actions;
        short_delay = rw c.delay r.short_delay;
      }

  pub nodes_are : (m : ℕ) → nodes_at l m ≡ (arena (game_of s) m).nodes
  nodes_are m = let c = carries s l e in rw (c.positions_size, c.actions) (sym (arena_nodes s m))

  pub asked_nodes : nodes_at l l.delay ≡ (arena (game_of s) (delay_of s)).nodes
  asked_nodes = nodes_are l.delay ∙ ap (λ m. (arena (game_of s) m).nodes) (carries s l e).delay

  pub words_are : words_at l ≡ initial_words (game_of s) (delay_of s)
  unfolding initial_words game_of
  words_are = let c = carries s l e in rw (c.actions, c.delay)

  pub header_is : (m : ℕ) → header_bytes l m ≡ header_of (game_of s) m
  unfolding header_bytes header_of game_of
  header_is m = let c = carries s l e in rw (c.start, c.actions, c.positions_size)

  pub asked_header : header_bytes l l.delay ≡ header_of (game_of s) (delay_of s)
  asked_header = header_is l.delay ∙ ap (header_of (game_of s)) (carries s l e).delay
