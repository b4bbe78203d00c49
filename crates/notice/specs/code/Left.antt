-- What a notice leaves of a table, in the code's own buffers. Assumes nothing.
use Rattle.std.specs.Prelude.{ℕ, ◌≤◌, ◌≡◌, Bool, true, not, cond, List, [], ◌∷◌, eqb, length, get_or, replicate}
use Rattle.theory.specs.Fold.{both, tabulate}
use Rattle.theory.specs.Answer.{accepted}
use Rattle.theory.specs.Buffer.{over}
use Rattle.theory.specs.Delay.{odd, arena}
use Rattle.theory.specs.Table.{Table, TableFits}
use Rattle.theory.specs.Closing.{listed, post, SizedMasks}
use Rattle.sheet.specs.Limits.{most_words, most_nodes}
use Rattle.sheet.specs.Form.{part_at}
use Rattle.sheet.specs.Bodies.{delay_of}
use Rattle.sheet.specs.SheetGame.{game_of}
use Rattle.sheet.specs.code.Arrays.{firsts_of}
use Rattle.reader.specs.Reading.{read_answer}
use Rattle.reader.specs.code.Laid.{grid_at}
use Rattle.reader.specs.declared.reading.Layout.{Layout}
use Rattle.walk.specs.code.Levels.{level_to}
use Rattle.table.specs.TableSheet.{table_at, shape_answer, some_flagged}
use Rattle.table.specs.declared.reading.TableLayout.{TableLayout}
use Rattle.region.specs.code.Flags.{flags_after}
use Rattle.rule.specs.code.Parts.{marks_after}
use Rattle.prune.specs.code.Pruning.{PrunedLeft}
use Rattle.judge.specs.Judging.{sheets_agree}
use Rattle.judge.specs.code.Judgeable.{table_with}
use Rattle.writer.specs.SheetBytes.{header_of, table_bytes}
use Rattle.notice.specs.Posting.{Written, sheet_with}

-- pruned over the arrays of a sheet with this layout and the P body p
abbrev pub PrunedIn : List ℕ → Layout → List ℕ → List ℕ → List ℕ → Type 0
PrunedIn s l p before after =
    PrunedLeft p (grid_at s l) (part_at s l.moves) (firsts_of (part_at s l.moves))
    (level_to (length p) l.start l.actions l.delay) before after

-- the table that a notice leaves of these bodies
abbrev pub left_of : List ℕ → List ℕ → List ℕ → List ℕ → Table
left_of s ps flags masks = post (game_of s) (delay_of s) ps (table_with flags masks)

-- the start is closed, where it is passed before the first command
unfoldable pub start_shut : ℕ → ℕ → List ℕ → Bool
start_shut d start ps = both (odd d) (listed ps start)

-- the flags of the words that are good where these masks are the kept ones, at the front of a buffer
abbrev pub good_flags_by : List ℕ → List ℕ → List ℕ → List ℕ
good_flags_by s masks buffer = flags_after s (marks_after masks (replicate most_nodes 0)) buffer

-- a flag that is left: it was there, and its word is good
unfoldable pub kept_flag : Bool → ℕ → ℕ → ℕ
kept_flag shut flag good = cond (both (not (eqb flag 0)) (both (not (eqb good 0)) (not shut))) 1 0

unfoldable pub kept_flag_at : Bool → List ℕ → List ℕ → ℕ → ℕ
kept_flag_at shut flags good v = kept_flag shut (get_or flags v 0) (get_or good v 0)

-- the flags that are left, at the front of the buffer that held the good ones
abbrev pub kept_after : Bool → List ℕ → List ℕ → List ℕ
kept_after shut flags good = over (tabulate (kept_flag_at shut flags good) 0 (length flags)) good

-- the S body of a table sheet that was read
abbrev pub numbers_of : TableLayout → List ℕ
numbers_of x = x.start ∷ x.actions ∷ x.delay ∷ x.highest ∷ []

-- both sheets were read, and check 21 passed
pub record Agreed (s : List ℕ) (l : Layout) (t : List ℕ) (x : TableLayout) : Type 0 where
  pub reads : read_answer s ≡ accepted l
  pub shape : shape_answer t ≡ accepted (table_at t x)
  pub agrees : sheets_agree s (table_at t x) ≡ true

-- a game sheet that was read, a table of its sizes and ranges with the game's numbers, which the largest buffers have room for, and an
-- output with room for its sheet
pub record Postable (s : List ℕ) (l : Layout) (x : TableLayout) (flags masks : List ℕ) (room : ℕ) : Type 0 where
  pub reads : read_answer s ≡ accepted l
  pub fits : TableFits (game_of s) (delay_of s) (table_with flags masks)
  pub sized : SizedMasks (arena (game_of s) (delay_of s)) masks
  pub few_flags : length flags ≤ most_words
  pub few_masks : length masks ≤ most_nodes
  pub numbers : numbers_of x ≡ header_of (game_of s) (delay_of s)
  pub room_enough : length (table_bytes (numbers_of x) flags masks) ≤ room

-- what is answered where a sheet of so many bytes with these flags was written
abbrev pub written_with : List ℕ → ℕ → Written
written_with flags size = record { remains = some_flagged (table_with flags []); size = size }

-- and once every check has passed
abbrev pub written_left : List ℕ → List ℕ → List ℕ → List ℕ → Written
written_left s ps flags masks =
    record {
      remains = some_flagged (left_of s ps flags masks);
      size = length (sheet_with s (left_of s ps flags masks));
    }
