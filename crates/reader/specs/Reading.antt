-- Reading a game sheet: the answer to every list of bytes. Assumes nothing.
use Rattle.std.specs.Prelude.{ℕ, List}
use Rattle.theory.specs.Answer.{Answer, accepted, check, on_accepted}
use Rattle.theory.specs.Reach.{reached}
use Rattle.sheet.specs.Limits.{width}
use Rattle.sheet.specs.Form.{contents_ok, placed_at}
use Rattle.reader.specs.Checks.{positions_ok, header_ok, targets_ok, moves_ok, gates_ok, all_leave, size_ok}
use Rattle.sheet.specs.Bodies.{letters_of, header_body, positions_body, targets_body, moves_body, is_holding, start_of, action_count, delay_of}
use Rattle.sheet.specs.SheetGame.{game_of}
use Rattle.reader.specs.declared.reading.Layout.{Layout}

-- "the start bytes and the places of the bodies", W-201's "number of positions that lie on some play from the start", and whether the
-- gates hold (W-207)
unfoldable pub layout_of : List ℕ → Layout
layout_of s =
    record {
      start = start_of s;
      actions = action_count s;
      delay = delay_of s;
      header = placed_at width s 0;
      positions = placed_at width s 1;
      targets = placed_at width s 2;
      moves = placed_at width s 3;
      reached = reached (game_of s);
      holding = is_holding s;
    }

-- the checks of any size of sheet, "made in the order written": document 01's first six, and W-207's, "after 5 and before 6"
unfoldable pub checked_answer : List ℕ → Answer Layout
checked_answer s =
    check (contents_ok width (letters_of s) s) 1
    (check (positions_ok (positions_body s)) 2
    (check (header_ok (positions_body s) (header_body s)) 3
    (check (targets_ok (positions_body s) (action_count s) (targets_body s)) 4
    (check (moves_ok (positions_body s) (moves_body s)) 5
    (check (gates_ok s) 24
    (check (all_leave (positions_body s) (targets_body s) (moves_body s)) 6 (accepted (layout_of s))))))))

-- and check 7
unfoldable pub read_answer : List ℕ → Answer Layout
read_answer s =
    on_accepted (checked_answer s)
    (λ l. check (size_ok (positions_body s) (action_count s) (delay_of s)) 7 (accepted l))
