-- Table sheets and rank sheets as the code of src/writing.rt writes them, one text after another. Assumes nothing.
use Prim.Native.Nat.{ℕ, ◌+◌, ◌*◌, ◌^◌, ◌≤◌, ◌<◌}
use mathlib.Core.Path.{◌≡◌, ◌∙◌}
use mathlib.Core.List.{List, [], ◌∷◌, ◌++◌, append_assoc, append-nil}
use native.Mathlib.Omega.{arith}
use lib.ListN.{length}
use borrow.Author.Tests.{lt-ltb, le-ltb}
use Rattle.sheet.specs.Form.{part, entry_size, entry_of, entries_from, bodies, sheet_of}
use Rattle.text.specs.Numbers.{shorts_text}
use Rattle.theory.specs.Bytes.{bytes_of}
use Rattle.text.proofs.Page.{writing}
use Rattle.text.proofs.Numbers.{length_shorts}
use Rattle.writer.specs.SheetBytes.{table_bytes, rank_bytes, written_sheet}
use Rattle.writer.specs.code.Room.{table_room, rank_room}
use Rattle.writer.proofs.Sheets.{before, length_sheet}

abbrev pub entry : ℕ → ℕ → ℕ → List ℕ
entry letter at size = letter ∷ (bytes_of 2 at ++ bytes_of 2 size)

-- whether a sheet is written

pub written_whole : (w : ℕ) (s : List ℕ) → length s < 256 ^ w → written_sheet w s ≡ s
unfolding written_sheet
written_whole w s h = rw (lt-ltb (length s) (256 ^ w) h)

written_none : (w : ℕ) (s : List ℕ) → 256 ^ w ≤ length s → written_sheet w s ≡ []
unfolding written_sheet
written_none w s h = rw (le-ltb (length s) (256 ^ w) h)

-- table sheets

pub table_text : (h w t : List ℕ) → table_bytes h w t
    ≡ entry 83 15 (length h) ++ (entry 87 (15 + length h) (length w) ++ (entry 84 (15 + length h + length w) (length t) ++ (h ++ (w ++ t))))
unfolding table_bytes sheet_of entries_from entry_of bodies entry_size
table_text h w t = simp (append_assoc, append-nil)

pub table_size : (h w t : List ℕ) → length (table_bytes h w t) ≡ 15 + (length h + length w + length t)
unfolding table_bytes entry_size before
table_size h w t = length_sheet 2 (part 83 h ∷ part 87 w ∷ part 84 t ∷ []) ∙ omega arith

-- rank sheets

pub rank_text : (h ranks : List ℕ) → rank_bytes h ranks
    ≡ entry 83 10 (length h) ++ (entry 82 (10 + length h) (2 * length ranks) ++ (h ++ shorts_text ranks))
unfolding rank_bytes sheet_of entries_from entry_of bodies entry_size
rank_text h ranks =
    let e : length ranks * 2 ≡ 2 * length ranks = omega arith in
    simp (append_assoc, append-nil, length_shorts, e)

pub rank_size : (h ranks : List ℕ) → length (rank_bytes h ranks) ≡ 10 + (length h + length ranks + length ranks)
unfolding rank_bytes entry_size before
rank_size h ranks = length_sheet 2 (part 83 h ∷ part 82 (shorts_text ranks) ∷ []) ∙ rw (length_shorts ranks) (omega arith)

-- bodies for which there is room, and bodies for which there is none

pub table_whole : (h w t : List ℕ) → length h + length w + length t ≤ table_room → written_sheet 2 (table_bytes h w t) ≡ table_bytes h w t
table_whole h w t g = written_whole 2 (table_bytes h w t) (rw table_size (omega arith))

pub table_none : (h w t : List ℕ) → table_room < length h + length w + length t → written_sheet 2 (table_bytes h w t) ≡ []
table_none h w t g = written_none 2 (table_bytes h w t) (rw table_size (omega arith))

pub rank_whole : (h ranks : List ℕ) → length h + length ranks + length ranks ≤ rank_room → written_sheet 2 (rank_bytes h ranks) ≡ rank_bytes h ranks
rank_whole h ranks g = written_whole 2 (rank_bytes h ranks) (rw rank_size (omega arith))

pub rank_none : (h ranks : List ℕ) → rank_room < length h + length ranks + length ranks → written_sheet 2 (rank_bytes h ranks) ≡ []
rank_none h ranks g = written_none 2 (rank_bytes h ranks) (rw rank_size (omega arith))

-- as the code asks them
pub ruleset sheet_laws = (writing, table_text, rank_text, table_whole, table_none, rank_whole, rank_none)
