-- Document 01's winning and losing sheets byte by byte, of any table and any ranks of a game, and what is written where a sheet
-- would be too long for its own numbers. Assumes nothing.
use Rattle.std.specs.Prelude.{ℕ, ◌-◌, ◌^◌, cond, List, [], ◌∷◌, ltb, length}
use Rattle.theory.specs.Game.{Game}
use Rattle.theory.specs.Table.{Table}
use Rattle.sheet.specs.Limits.{width}
use Rattle.sheet.specs.Form.{part, sheet_of}
use Rattle.text.specs.Numbers.{shorts_text}
use Rattle.table.specs.TableSheet.{TableSheet}

-- "S: start, A, lag, highest position"
unfoldable pub header_of : Game → ℕ → List ℕ
header_of G d = G.start ∷ G.actions ∷ d ∷ (G.positions - 1) ∷ []

-- "A winning sheet has S, W, T", with these bodies
unfoldable pub table_bytes : List ℕ → List ℕ → List ℕ → List ℕ
table_bytes h w t = sheet_of width (part 83 h ∷ part 87 w ∷ part 84 t ∷ [])

-- "A losing sheet has S, R"; R has "two bytes of rank, low byte first, for each pair by pair number"
unfoldable pub rank_bytes : List ℕ → List ℕ → List ℕ
rank_bytes h ranks = sheet_of width (part 83 h ∷ part 82 (shorts_text ranks) ∷ [])

-- the table sheet of any table of a game: W has "a byte for each first word", T "the masks by pair number"
unfoldable pub table_sheet : Game → ℕ → Table → List ℕ
table_sheet G d T = table_bytes (header_of G d) T.flags T.masks

-- what it says
abbrev pub table_said : Game → ℕ → Table → TableSheet
table_said G d T = record { start = G.start; actions = G.actions; delay = d; highest = G.positions - 1; table = T }

-- the rank sheet of any ranks of a game at delay m, "with m as its lag"
unfoldable pub rank_sheet : Game → ℕ → List ℕ → List ℕ
rank_sheet G m ranks = rank_bytes (header_of G m) ranks

-- a sheet as it is written: nothing where its length does not fit the w bytes of an offset
unfoldable pub written_sheet : ℕ → List ℕ → List ℕ
written_sheet w s = cond (ltb (length s) (256 ^ w)) s []
