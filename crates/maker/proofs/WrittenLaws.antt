-- The rank sheet and the table sheet, as the code of src/making.rt writes them from a layout and the buffers. Assumes nothing.
use Prim.Native.Nat.{ℕ, ◌≤◌, ◌<◌, ◌^◌}
use mathlib.Core.Path.{◌≡◌, sym, ◌∙◌, ap}
use mathlib.Core.List.{List}
use native.Mathlib.Omega.{arith}
use lib.ListN.{length, take, length-take}
use lib.Seq.{length-take-le}
use Rattle.theory.specs.Buffer.{over}
use Rattle.theory.specs.Game.{Game}
use Rattle.theory.specs.Rounds.{masks}
use Rattle.theory.specs.Delay.{initial_words, arena, flags}
use Rattle.theory.specs.Table.{ours}
use Rattle.theory.proofs.Buffer.{over_first, over_room}
use Rattle.theory.proofs.Region.{length_masks}
use Rattle.theory.proofs.OurTable.{ours_fits}
use Rattle.sheet.specs.Limits.{most_nodes, most_words}
use Rattle.sheet.specs.Bodies.{delay_of}
use Rattle.sheet.specs.SheetGame.{game_of}
use Rattle.reader.specs.declared.reading.Layout.{Layout}
use borrow.Author.Rules.{rules}
use Rattle.text.specs.Page.{Page, puts}
use Rattle.region.specs.code.Flags.{flags_count, flags_after}
use Rattle.region.proofs.FlagLaws.{words_counted, flags_theory}
use Rattle.writer.specs.SheetBytes.{table_bytes, table_sheet, rank_bytes, written_sheet}
use Rattle.writer.proofs.Readable.{few_words, sheet_ranged}
use Rattle.writer.proofs.WriteLaws.{written_whole, rank_size}
use Rattle.maker.specs.Making.{table_sheet_of}
use Rattle.maker.specs.code.Checked.{nodes_at, header_bytes, HasTable}
use Rattle.maker.proofs.Readable.{table_sheet_short}
use Rattle.maker.proofs.LayoutLaws.{Small, small, asked_nodes, asked_header}

-- the rank sheet; n nodes as the code has counted them
module _ (l : Layout) (m n : ℕ) (h xs : List ℕ) (en : n ≡ nodes_at l m) (eh : h ≡ header_bytes l m) (few : nodes_at l m ≤ most_nodes) where
  rank_sheet_short : length (rank_bytes h (take n xs)) < 256 ^ 2
  unfolding header_bytes
  rank_sheet_short = rw (rank_size h (take n xs), length-take n xs, eh) (omega arith)

  pub ranks_written : (p : Page) {q : Page} → q ≡ puts p (written_sheet 2 (rank_bytes h (take n xs)))
      → q ≡ puts p (rank_bytes (header_bytes l m) (take (nodes_at l m) xs))
  ranks_written p e =
      e
      ∙ ap (puts p) (written_whole 2 (rank_bytes h (take n xs)) rank_sheet_short)
      ∙ ap (λ b. puts p (rank_bytes b (take n xs))) eh
      ∙ ap (λ k. puts p (rank_bytes (header_bytes l m) (take k xs))) en

pub ruleset rank_sheets = (rules, length-take-le, ranks_written)

-- the table sheet; n nodes and w first words as the code has counted them, F the flags in a buffer that was B
module _ (s : List ℕ) (l : Layout) (M R : List ℕ) (has : HasTable s l M R) where
  abbrev G : Game
  G = game_of s

  abbrev d : ℕ
  d = delay_of s

  pub has_small : Small l
  has_small = small s l has.reads

  pub has_delay : l.delay ≤ 6
  has_delay = has_small.short_delay

  asked : (n : ℕ) → n ≡ nodes_at l l.delay → n ≡ (arena G d).nodes
  asked n e = e ∙ asked_nodes s l has.reads

  front_masks : (n : ℕ) → n ≡ nodes_at l l.delay → take n M ≡ masks (arena G d)
  front_masks n e = rw (asked n e) has.masks

  pub masks_inside : (n : ℕ) → n ≡ nodes_at l l.delay → n ≡ length (take n M)
  masks_inside n e = asked n e ∙ sym (length_masks (arena G d)) ∙ ap length (sym (front_masks n e))

  module _ (w : ℕ) (B F : List ℕ) (room : most_words ≤ length B) (ew : w ≡ flags_count s (length B)) (ef : F ≡ flags_after s R B) where
    all_words : initial_words G d ≤ length B
    all_words = omega (arith, few_words G d (sheet_ranged s l has.reads))

    flags_over : F ≡ over (flags G d) B
    flags_over = ef ∙ flags_theory s R B l has.reads all_words has.ranks

    words_are : w ≡ length (flags G d)
    unfolding ours
    words_are = ew ∙ words_counted s l (length B) has.reads all_words ∙ sym (ours_fits G d).flags_length

    front_flags : take w F ≡ flags G d
    front_flags = rw flags_over (over_first (flags G d) B w words_are)

    flags_fit : w ≤ length F
    flags_fit = rw flags_over (omega (arith, words_are, over_room (flags G d) B))

    module _ (n : ℕ) (h : List ℕ) (en : n ≡ nodes_at l l.delay) (eh : h ≡ header_bytes l l.delay) where
      table_bytes_lem : table_bytes h (take w F) (take n M) ≡ table_sheet_of G d
      unfolding table_sheet_of table_sheet ours
      table_bytes_lem = rw (eh ∙ asked_header s l has.reads, front_flags, front_masks n en)

  -- the same in a buffer of most_words, which the code has
  module _ (w : ℕ) (B F : List ℕ) (ew : w ≡ flags_count s most_words) (ef : F ≡ flags_after s R B) (room : length B ≡ most_words) where
    enough : most_words ≤ length B
    enough = omega (arith, room)

    counted : w ≡ flags_count s (length B)
    counted = ew ∙ ap (flags_count s) (sym room)

    pub flags_room : w ≤ length F
    flags_room = flags_fit w B F enough counted ef

    pub flags_inside : w ≡ length (take w F)
    flags_inside = sym (length-take-le w F flags_room)

    module _ (n : ℕ) (h : List ℕ) (en : n ≡ nodes_at l l.delay) (eh : h ≡ header_bytes l l.delay) where
      pub table_written : (p : Page) {q : Page} → q ≡ puts p (written_sheet 2 (table_bytes h (take w F) (take n M)))
          → q ≡ puts p (table_sheet_of G d)
      table_written p e =
          e
          ∙ ap (λ t. puts p (written_sheet 2 t)) (table_bytes_lem w B F enough counted ef n h en eh)
          ∙ ap (puts p) (written_whole 2 (table_sheet_of G d) (table_sheet_short G d (sheet_ranged s l has.reads)))

pub ruleset table_sheets =
    (rules, has_delay, masks_inside, flags_room, flags_inside, table_written)
