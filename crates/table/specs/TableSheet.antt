-- Reading a table sheet, document 01's "winning sheet": "S, W, T". The answer to every list of bytes. Assumes nothing.
use Rattle.std.specs.Prelude.{ℕ, ◌+◌, ◌^◌, Bool, List, [], ◌∷◌, eqb, leb, ltb, length, get_or}
use Rattle.theory.specs.Fold.{both, all_below, any_below}
use Rattle.theory.specs.Answer.{Answer, refused, accepted, check, on_accepted}
use Rattle.theory.specs.Strategy.{initial_length}
use Rattle.theory.specs.Table.{Table, flagged}
use Rattle.sheet.specs.Limits.{width, most_actions, most_delay, most_nodes}
use Rattle.sheet.specs.Form.{contents_ok, placed_at, part_at, body_of}
use Rattle.sheet.specs.Size.{nodes_of}
use Rattle.table.specs.declared.reading.TableLayout.{TableLayout}

-- S, W, T: with two-byte numbers, "15 bytes of contents"
abbrev pub table_letters : List ℕ
table_letters = 83 ∷ 87 ∷ 84 ∷ []

-- what a table sheet says: "start, A, lag, highest position", and the table
pub record TableSheet : Type 0 where
  pub start : ℕ
  pub actions : ℕ
  pub delay : ℕ
  pub highest : ℕ
  pub table : Table

-- where it says it
unfoldable pub table_layout : List ℕ → TableLayout
table_layout s =
    record {
      start = get_or (body_of width s 0) 0 0;
      actions = get_or (body_of width s 0) 1 0;
      delay = get_or (body_of width s 0) 2 0;
      highest = get_or (body_of width s 0) 3 0;
      flags = placed_at width s 1;
      masks = placed_at width s 2;
    }

-- what these numbers, W and T bodies say
abbrev pub says : TableLayout → List ℕ → List ℕ → TableSheet
says l flags masks =
    record {
      start = l.start;
      actions = l.actions;
      delay = l.delay;
      highest = l.highest;
      table = record { flags = flags; masks = masks };
    }

-- what the parts of a sheet at these places say
abbrev pub table_at : List ℕ → TableLayout → TableSheet
table_at s l = says l (part_at s l.flags) (part_at s l.masks)

unfoldable pub decode : List ℕ → TableSheet
decode s = table_at s (table_layout s)

-- the number of nodes, "positions × A^L"
unfoldable pub table_nodes : TableSheet → ℕ
table_nodes x = nodes_of (x.highest + 1) x.actions x.delay

-- 11, the S body of so many bytes: "S not 4 bytes, A or lag out of range, start over the highest position, pairs over 16,384"
unfoldable pub numbers_ok : ℕ → TableSheet → Bool
numbers_ok size x =
    both (eqb size 4)
    (both (leb 1 x.actions)
    (both (leb x.actions most_actions)
    (both (leb x.delay most_delay) (both (leb x.start x.highest) (leb (table_nodes x) most_nodes)))))

unfoldable pub below_at : ℕ → List ℕ → ℕ → Bool
below_at bound b k = ltb (get_or b k 0) bound

-- every byte is below the bound
unfoldable pub bytes_below : ℕ → List ℕ → Bool
bytes_below bound b = all_below (below_at bound b) (length b)

-- 11, the other bodies: "a wrong length of W or T, a W byte over 1, a mask bit at A or above"
unfoldable pub bodies_ok : TableSheet → Bool
bodies_ok x =
    both (eqb (length x.table.flags) (x.actions ^ initial_length x.delay))
    (both (eqb (length x.table.masks) (table_nodes x))
    (both (bytes_below 2 x.table.flags) (bytes_below (2 ^ x.actions) x.table.masks)))

-- 10 and 11, "made in the order written": the chain without its last step, for a later request
unfoldable pub shape_answer : List ℕ → Answer TableSheet
shape_answer s =
    check (contents_ok width table_letters s) 10
    (check (numbers_ok (length (body_of width s 0)) (decode s)) 11 (check (bodies_ok (decode s)) 11 (accepted (decode s))))

-- a W byte is 1
unfoldable pub some_flagged : Table → Bool
some_flagged T = any_below (flagged T) (length T.flags)

-- "Reading a winning sheet": 10 and 11, then 12, "no W byte is 1"
unfoldable pub table_answer : List ℕ → Answer TableSheet
table_answer s = on_accepted (shape_answer s) (λ x. check (some_flagged x.table) 12 (accepted x))

-- the part of the sheet that an answer gives back: "the T body as that part of the caller's sheet"; none where it is a refusal
unfoldable pub masks_in : List ℕ → Answer TableSheet → List ℕ
masks_in s (refused n) = []
masks_in s (accepted x) = body_of width s 2

unfoldable pub masks_of : List ℕ → List ℕ
masks_of s = masks_in s (table_answer s)
