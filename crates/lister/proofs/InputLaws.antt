-- The text by the length of the input and by its reading, as `list` finds them. Assumes nothing.
use Prim.Native.Nat.{ℕ, ◌≤◌, ◌<◌}
use mathlib.Core.Path.{◌≡◌, sym, ◌∙◌}
use mathlib.Core.List.{List}
use native.Mathlib.Omega.{arith}
use lib.ListN.{length}
use lib.Seq.{length-take-le}
use borrow.Author.Rules.{rules}
use borrow.Author.Tests.{lt-ltb, le-ltb}
use Rattle.theory.specs.Answer.{refused, on_accepted}
use Rattle.reader.specs.Reading.{read_answer}
use Rattle.reader.proofs.Accepted.{read_accepted, read_refused}
use Rattle.text.specs.Page.{Writes}
use Rattle.text.specs.Lines.{refused_line}
use Rattle.text.proofs.Page.{place_within}
use Rattle.solver.specs.Solving.{solve_answer, masks_left, ranks_left}
use Rattle.io.specs.Counts.{IsPrefixLen}
use Rattle.lister.specs.Listing.{most_input, solved_text, text_with, masks_with, ranks_with}

-- input that is too long
module _ (s : List ℕ) (h : most_input < length s) where
  pub long_text : (m n : ℕ) → text_with s m n ≡ refused_line 1
  unfolding text_with
  long_text m n = rw (lt-ltb most_input (length s) h)

  pub long_masks : (n : ℕ) (b : List ℕ) → b ≡ masks_with s n b
  unfolding masks_with
  long_masks n b = rw (lt-ltb most_input (length s) h)

  pub long_ranks : (n : ℕ) (b : List ℕ) → b ≡ ranks_with s n b
  unfolding ranks_with
  long_ranks n b = rw (lt-ltb most_input (length s) h)

-- other input is what solving says of it
module _ (s : List ℕ) (h : length s ≤ most_input) where
  pub solved_text_lem : (m n : ℕ) → text_with s m n ≡ solved_text s (solve_answer s m n)
  unfolding text_with
  solved_text_lem m n = rw (le-ltb most_input (length s) h)

  pub solved_masks : (n : ℕ) (b : List ℕ) {ms : List ℕ} → ms ≡ masks_left s (solve_answer s (length b) n) b → ms ≡ masks_with s n b
  unfolding masks_with
  solved_masks n b e = rw (le-ltb most_input (length s) h) e

  pub solved_ranks : (n : ℕ) (b : List ℕ) {rs : List ℕ} → rs ≡ ranks_left s (solve_answer s n (length b)) b → rs ≡ ranks_with s n b
  unfolding ranks_with
  solved_ranks n b e = rw (le-ltb most_input (length s) h) e

-- what reading refuses, solving refuses
module _ (s : List ℕ) (k : ℕ) (e : read_answer s ≡ refused k) where
  refused_solved : (m n : ℕ) → solve_answer s m n ≡ refused k
  unfolding solve_answer on_accepted
  refused_solved m n = rw e

  module _ (h : length s ≤ most_input) where
    pub refused_text : (m n : ℕ) → text_with s m n ≡ refused_line k
    unfolding solved_text
    refused_text m n = solved_text_lem s h m n ∙ rw (refused_solved m n)

    pub refused_masks : (n : ℕ) (b : List ℕ) → b ≡ masks_with s n b
    unfolding masks_left
    refused_masks n b = solved_masks s h n b (rw (refused_solved (length b) n))

    pub refused_ranks : (n : ℕ) (b : List ℕ) → b ≡ ranks_with s n b
    unfolding ranks_left
    refused_ranks n b = solved_ranks s h n b (rw (refused_solved n (length b)))

-- the place after any text that began at 0
pub within_parts : (t l l' : List ℕ) (r : ℕ) → Writes l 0 t l' r → IsPrefixLen r l'
within_parts t l l' r e = let h = place_within t l l' 0 r (omega arith) e in (h, sym (length-take-le r l' h))

pub ruleset long = (rules, long_text, long_masks, long_ranks)

pub ruleset refusing = (rules, read_refused, refused_text, refused_masks, refused_ranks)

pub ruleset accepting = (rules, read_accepted, solved_text_lem, solved_masks, solved_ranks)
