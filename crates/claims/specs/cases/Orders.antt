-- Two notices for one table sheet, over bytes: what each leaves, what the other leaves after it, and what both leave at once. Assumes
-- nothing.
use Rattle.std.specs.Prelude.{ℕ, ◌+◌, Bool, true, false, List, [], ◌∷◌, ◌++◌, length, replicate}
use Rattle.theory.specs.Answer.{Answer, accepted}
use Rattle.judge.specs.cases.Tables.{table_from}
use Rattle.notice.specs.Posting.{Written, posted_answer}
use Rattle.notice.specs.cases.Notices.{fork, fork_by, fork_ours}
use Rattle.claims.specs.Notices.{sheet_after}

-- what a posting answers and the sheet that it writes
pub record PostResult : Type 0 where
  pub answer : Answer Written
  pub sheet : List ℕ

-- an output for a sheet t, two bytes longer, none of which a sheet writes
abbrev pub lent_for : List ℕ → List ℕ
lent_for t = replicate (length t + 2) 255

unfoldable pub result_of : List ℕ → List ℕ → List ℕ → PostResult
result_of s t ps = record { answer = posted_answer s t ps (lent_for t); sheet = sheet_after s t ps (lent_for t) }

-- it is accepted, a first word remains or none, and this is the sheet
abbrev leaves : Bool → List ℕ → PostResult
leaves remains t = record { answer = accepted (record { remains = remains; size = length t }); sheet = t }

pub record Order : Type 0 where
  pub sheet : List ℕ
  pub table : List ℕ
  pub one : List ℕ
  pub other : List ℕ
  pub after_one : PostResult
  pub after_other : PostResult
  pub after_both : PostResult

abbrev order : List ℕ → List ℕ → List ℕ → List ℕ → PostResult → PostResult → PostResult → Order
order s t ps qs a b c =
    record { sheet = s; table = t; one = ps; other = qs; after_one = a; after_other = b; after_both = c }

-- each notice alone; the other after it, both ways; both at once
unfoldable pub computed : Order → List PostResult
computed o =
    let s = o.sheet in
    let a = result_of s o.table o.one in
    let b = result_of s o.table o.other in
    a ∷ b ∷ result_of s a.sheet o.other ∷ result_of s b.sheet o.one ∷ result_of s o.table (o.one ++ o.other) ∷ []

unfoldable pub expected : Order → List PostResult
expected o = o.after_one ∷ o.after_other ∷ o.after_both ∷ o.after_both ∷ o.after_both ∷ []

-- a table for the fork at lag 2
unfoldable pub fork_at2 : List ℕ → List ℕ → List ℕ
fork_at2 w t = table_from (0 ∷ 2 ∷ 2 ∷ 3 ∷ []) w t

-- one for the fork at lag 1 that is not sound: masks on the wrong side
unfoldable pub fork_wrong : List ℕ
fork_wrong = fork_by (1 ∷ 1 ∷ []) (3 ∷ 3 ∷ 3 ∷ 3 ∷ [])

unfoldable pub orders : List Order
orders =
    -- our own at lag 1, where the second leaves no first word, and at lag 2
    order (fork 1) fork_ours (3 ∷ []) (0 ∷ [])
    (leaves true (fork_by (1 ∷ 0 ∷ []) (0 ∷ 0 ∷ 1 ∷ 0 ∷ [])))
    (leaves false (fork_by (0 ∷ 0 ∷ []) (0 ∷ 0 ∷ 3 ∷ 3 ∷ [])))
    (leaves false (fork_by (0 ∷ 0 ∷ []) (0 ∷ 0 ∷ 1 ∷ 0 ∷ [])))
    ∷ order (fork 2) (fork_at2 (1 ∷ 1 ∷ []) (3 ∷ 3 ∷ 3 ∷ 3 ∷ 0 ∷ 0 ∷ 0 ∷ 0 ∷ [])) (3 ∷ []) (0 ∷ [])
    (leaves true (fork_at2 (1 ∷ 0 ∷ []) (1 ∷ 0 ∷ 1 ∷ 0 ∷ 0 ∷ 0 ∷ 0 ∷ 0 ∷ [])))
    (leaves false (fork_at2 (0 ∷ 0 ∷ []) (0 ∷ 0 ∷ 3 ∷ 3 ∷ 0 ∷ 0 ∷ 0 ∷ 0 ∷ [])))
    (leaves false (fork_at2 (0 ∷ 0 ∷ []) (0 ∷ 0 ∷ 1 ∷ 0 ∷ 0 ∷ 0 ∷ 0 ∷ 0 ∷ [])))
    -- W all 0 before either
    ∷ order (fork 1) (fork_by (0 ∷ 0 ∷ []) (0 ∷ 0 ∷ 3 ∷ 3 ∷ [])) (3 ∷ []) (2 ∷ [])
    (leaves false (fork_by (0 ∷ 0 ∷ []) (0 ∷ 0 ∷ 1 ∷ 0 ∷ [])))
    (leaves false (fork_by (0 ∷ 0 ∷ []) (0 ∷ 0 ∷ 0 ∷ 2 ∷ [])))
    (leaves false (fork_by (0 ∷ 0 ∷ []) (0 ∷ 0 ∷ 0 ∷ 0 ∷ [])))
    -- one that is not sound, which an empty notice shrinks
    ∷ order (fork 1) fork_wrong (3 ∷ []) []
    (leaves true (fork_by (1 ∷ 0 ∷ []) (0 ∷ 0 ∷ 1 ∷ 0 ∷ [])))
    (leaves true fork_ours)
    (leaves true (fork_by (1 ∷ 0 ∷ []) (0 ∷ 0 ∷ 1 ∷ 0 ∷ [])))
    -- the same notice again, with a repeat
    ∷ order (fork 1) fork_ours (3 ∷ []) (3 ∷ 3 ∷ [])
    (leaves true (fork_by (1 ∷ 0 ∷ []) (0 ∷ 0 ∷ 1 ∷ 0 ∷ [])))
    (leaves true (fork_by (1 ∷ 0 ∷ []) (0 ∷ 0 ∷ 1 ∷ 0 ∷ [])))
    (leaves true (fork_by (1 ∷ 0 ∷ []) (0 ∷ 0 ∷ 1 ∷ 0 ∷ [])))
    ∷ []
