-- The search for the positions on plays: marks of those found, and a queue that has each of them once, in the order found.
-- Assumes nothing.
use Rattle.std.specs.Prelude.{ℕ, suc, ◌≤◌, ◌<◌, ◌≡◌, Bool, true, false, List, eqb, length, get_or}
use Rattle.theory.specs.Fold.{either, any_below, any_of, tabulate, count}
use Rattle.theory.specs.Reach.{is_target}
use Rattle.sheet.specs.Limits.{most_positions}
use Rattle.sheet.specs.code.Arrays.{target_at, tos_between}
use Rattle.arrayvec.specs.ArrayVec.{ArrayVec}
use Rattle.reader.specs.declared.reach.Queue.{Queue}

-- a queue by its marks and entries
abbrev pub queue_of : List Bool → ArrayVec ℕ → Queue
queue_of marks entries = record { marks = marks; entries = entries }

unfoldable pub marked : List Bool → ℕ → Bool
marked marks r = get_or marks r false

-- the queue's entries are the positions with a mark
pub record Queued (w : Queue) : Type 0 where
  pub marks_length : length w.marks ≡ most_positions
  pub number : length w.entries.items ≡ count (marked w.marks) most_positions
  pub holds : (i : ℕ) → i < length w.entries.items → marked w.marks (get_or w.entries.items i 0) ≡ true
  pub has : (r : ℕ) → marked w.marks r ≡ true → (i : ℕ) × (i < length w.entries.items) × (get_or w.entries.items i 0 ≡ r)

-- marks, and one for each position that passes a test
unfoldable pub marks_with : (ℕ → Bool) → List Bool → List Bool
marks_with f marks = tabulate (λ r. either (marked marks r) (f r)) 0 most_positions

-- the positions that pass a test have joined a queue, at its end
pub record Grown (f : ℕ → Bool) (v w : Queue) : Type 0 where
  pub queued : Queued w
  pub marks : w.marks ≡ marks_with f v.marks
  pub no_fewer : length v.entries.items ≤ length w.entries.items
  pub kept : (i : ℕ) → i < length v.entries.items → get_or w.entries.items i 0 ≡ get_or v.entries.items i 0

-- the tests: r is t; the target of one of the first n actions at q; on a line of the U body from i up to e; one move from q
unfoldable pub is_position : ℕ → ℕ → Bool
is_position t r = eqb r t

unfoldable pub by_action_in : List (List ℕ) → ℕ → ℕ → ℕ → Bool
by_action_in g q n r = any_below (λ c. is_target r (target_at g q c)) n

unfoldable pub by_line : List ℕ → ℕ → ℕ → ℕ → Bool
by_line u i e r = any_of (eqb r) (tos_between u i e)

unfoldable pub by_move_in : List (List ℕ) → List ℕ → List ℕ → ℕ → ℕ → ℕ → Bool
by_move_in g u f actions q r = either (by_action_in g q actions r) (by_line u (get_or f q 0) (get_or f (suc q) 0) r)
