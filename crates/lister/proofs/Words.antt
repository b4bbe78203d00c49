-- The flags of the first words lie within the buffer, their lines are those of the listing, and they are theory's. Assumes nothing.
use Prim.Native.Nat.{ℕ, min, ◌+◌, ◌/◌, ◌%◌, ◌≤◌}
use mathlib.Core.Path.{◌≡◌, sym, ap, ◌∙◌}
use mathlib.Core.List.{List}
use native.Mathlib.Omega.{arith}
use lib.ListN.{length, take}
use lib.Seq.{length-take-le}
use borrow.Author.Rules.{rules}
use Rattle.theory.specs.Answer.{accepted}
use Rattle.theory.specs.Buffer.{over}
use Rattle.theory.specs.Fold.{tabulate}
use Rattle.theory.specs.Rounds.{final_ranks}
use Rattle.theory.specs.Delay.{arena, flags, initial_words}
use Rattle.theory.proofs.Buffer.{over_first, over_room}
use Rattle.theory.proofs.Fold.{length_tabulate}
use Rattle.sheet.specs.Limits.{most_words}
use Rattle.sheet.specs.Bodies.{delay_of}
use Rattle.reader.specs.Reading.{read_answer}
use Rattle.sheet.specs.SheetGame.{game_of}
use Rattle.reader.specs.declared.reading.Layout.{Layout}
use Rattle.reader.proofs.Legality.{legal_game}
use Rattle.region.specs.code.Flags.{flag_with, flags_count, flags_after}
use Rattle.region.proofs.FlagLaws.{few_words, words_counted, flags_final}
use Rattle.lister.specs.code.Parts.{flags_in}

-- n flags stand in the buffer fs, which was b of so many entries

module _ (s ranks b : List ℕ) (n room : ℕ) (fs : List ℕ) (e : n ≡ flags_count s room) (f : fs ≡ flags_after s ranks b) (h : length b ≡ room) where
  flags_counted : n ≡ length (flags_in s ranks room)
  unfolding flags_in
  flags_counted = e ∙ sym (length_tabulate _ 0 _)

  flags_over : fs ≡ over (flags_in s ranks room) b
  unfolding flags_in flags_after
  flags_over = rw (← h) f

  pub count_within : n ≤ length fs
  count_within = rw flags_over (omega (arith, over_room (flags_in s ranks room) b, flags_counted))

  pub flags_front : take n fs ≡ flags_in s ranks room
  flags_front = rw flags_over (over_first (flags_in s ranks room) b n flags_counted)

-- half of a delay, rounded up
pub half_up : (d : ℕ) → d / 2 + min 1 (d % 2) ≡ (d + 1) / 2
half_up d = omega arith

pub ruleset words_laws = (rules, count_within, length-take-le, flags_front, half_up)

module _ (s : List ℕ) (l : Layout) (read : read_answer s ≡ accepted l) where
  pub flags_length : length (flags (game_of s) (delay_of s)) ≡ initial_words (game_of s) (delay_of s)
  unfolding flags
  flags_length = length_tabulate _ 0 _

  pub flags_are : (ranks : List ℕ) → take (arena (game_of s) (delay_of s)).nodes ranks ≡ final_ranks (arena (game_of s) (delay_of s))
      → flags_in s ranks most_words ≡ flags (game_of s) (delay_of s)
  unfolding flags_in
  flags_are ranks front =
      ap (tabulate (flag_with (game_of s) (delay_of s) ranks) 0) (words_counted s l most_words read (few_words s l read))
      ∙ flags_final (game_of s) (legal_game s l read) (delay_of s) ranks front
