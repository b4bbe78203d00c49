-- Notices over bytes, each with the table posted on, the answer and the output after it: what is left of the hall's table and of others,
-- and the order of the last refusals. Assumes nothing.
use Rattle.std.specs.Prelude.{ℕ, ◌+◌, Bool, true, false, List, [], ◌∷◌, ◌++◌, length, replicate}
use Rattle.theory.specs.Answer.{Answer, refused, accepted}
use Rattle.reader.specs.cases.Yards.{sheet_with, hall}
use Rattle.judge.specs.cases.Tables.{table_from, hall_by, hall_ours, hall_less}
use Rattle.notice.specs.Posting.{Written, posting, written_of, output_posted}

pub record Case : Type 0 where
  pub sheet : List ℕ
  pub table : List ℕ
  pub closed : List ℕ
  pub output : List ℕ
  pub answer : Answer Written
  pub left : List ℕ

-- an output of so many bytes, none of which a sheet writes
abbrev lent : ℕ → List ℕ
lent n = replicate n 255

-- the sheet t' is left in an output of so many bytes more
abbrev leaves : List ℕ → List ℕ → List ℕ → ℕ → Bool → List ℕ → Case
leaves s t ps beyond remains t' =
    record {
      sheet = s;
      table = t;
      closed = ps;
      output = lent (length t' + beyond);
      answer = accepted (record { remains = remains; size = length t' });
      left = t' ++ lent beyond;
    }

-- a refusal, with an output of so many bytes
abbrev refuses : List ℕ → List ℕ → List ℕ → ℕ → ℕ → Case
refuses s t ps room n = record { sheet = s; table = t; closed = ps; output = lent room; answer = refused n; left = lent room }

-- the case with what the definitions give
unfoldable pub computed : Case → Case
computed c =
    let a = posting c.sheet c.table c.closed c.output in
    record {
      sheet = c.sheet;
      table = c.table;
      closed = c.closed;
      output = c.output;
      answer = written_of c.sheet a;
      left = output_posted c.sheet a c.output;
    }

-- the fork: either command leads to position 1, by 2 or by 3, and never back to the start
unfoldable pub fork : ℕ → List ℕ
fork d = sheet_with (0 ∷ 2 ∷ d ∷ []) (0 ∷ 0 ∷ 2 ∷ 2 ∷ []) (0 ∷ 0 ∷ 2 ∷ 0 ∷ 1 ∷ 3 ∷ 1 ∷ 0 ∷ 2 ∷ 1 ∷ 1 ∷ 3 ∷ []) (2 ∷ 1 ∷ 3 ∷ 1 ∷ [])

-- a table for it at lag 1
unfoldable pub fork_by : List ℕ → List ℕ → List ℕ
fork_by w t = table_from (0 ∷ 2 ∷ 1 ∷ 3 ∷ []) w t

-- our own sheet
unfoldable pub fork_ours : List ℕ
fork_ours = fork_by (1 ∷ 1 ∷ []) (0 ∷ 0 ∷ 3 ∷ 3 ∷ [])

unfoldable pub cases : List Case
cases =
    -- one that empties the hall's table: the highest position
    leaves (hall 2) hall_ours (6 ∷ []) 2 false (hall_by 0 (0 ∷ 0 ∷ []) (0 ∷ 0 ∷ 0 ∷ 0 ∷ 0 ∷ 0 ∷ 0 ∷ 0 ∷ 0 ∷ 0 ∷ 0 ∷ 0 ∷ 0 ∷ 0 ∷ []))
    -- one that leaves something: only the first command, and only by 2
    ∷ leaves (fork 1) fork_ours (3 ∷ []) 2 true (fork_by (1 ∷ 0 ∷ []) (0 ∷ 0 ∷ 1 ∷ 0 ∷ []))
    -- a closed start at odd lag: no word remains, though all masks do
    ∷ leaves (fork 1) fork_ours (0 ∷ []) 0 false (fork_by (0 ∷ 0 ∷ []) (0 ∷ 0 ∷ 3 ∷ 3 ∷ []))
    -- W all 0 is read, and a word that was not flagged does not come back
    ∷ leaves (fork 1) (fork_by (0 ∷ 0 ∷ []) (0 ∷ 0 ∷ 3 ∷ 3 ∷ [])) (3 ∷ []) 0 false (fork_by (0 ∷ 0 ∷ []) (0 ∷ 0 ∷ 1 ∷ 0 ∷ []))
    -- an empty one on our own table and on less than ours
    ∷ leaves (hall 2) hall_ours [] 0 true hall_ours
    ∷ leaves (hall 2) hall_less [] 0 true hall_less
    -- it cleans foreign ones: a word whose pair has no mask; a command that is not permitted and a mask on the wrong side
    ∷ leaves (hall 2) (hall_by 0 (1 ∷ 1 ∷ []) (1 ∷ 0 ∷ 2 ∷ 0 ∷ 1 ∷ 0 ∷ 0 ∷ 1 ∷ 0 ∷ 0 ∷ 0 ∷ 0 ∷ 0 ∷ 0 ∷ [])) [] 0 true hall_less
    ∷ leaves (hall 2) (hall_by 0 (1 ∷ 1 ∷ []) (3 ∷ 1 ∷ 2 ∷ 2 ∷ 3 ∷ 0 ∷ 0 ∷ 3 ∷ 1 ∷ 0 ∷ 0 ∷ 0 ∷ 0 ∷ 0 ∷ [])) [] 0 true hall_ours
    -- a position that doesn't exist; an output one byte short; 23 before 9; 21 before 23
    ∷ refuses (hall 2) hall_ours (0 ∷ 7 ∷ []) 35 23
    ∷ refuses (hall 2) hall_ours (6 ∷ []) 34 9
    ∷ refuses (hall 2) hall_ours (7 ∷ []) 34 23
    ∷ refuses (hall 3) hall_ours (7 ∷ []) 35 21
    ∷ []
