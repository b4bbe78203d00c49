-- The tests of words and nodes as the code makes them. Assumes nothing.
use Rattle.std.specs.Prelude.{ℕ, Bool, not, cond, List, eqb, get_or, replicate, Option, Some, None}
use Rattle.theory.specs.Fold.{either, all_below, first_not}
use Rattle.theory.specs.Rounds.{Arena}
use Rattle.sheet.specs.Limits.{most_words}
use Rattle.walk.specs.code.Walks.{fallen_by}
use Rattle.region.specs.code.Flags.{flags_after}
use Rattle.rule.specs.code.Parts.{part_of}

-- the whole mask of node k may stand
unfoldable pub whole_at : Arena → List ℕ → List ℕ → ℕ → Bool
whole_at E marks masks k = eqb (part_of E (fallen_by 1 marks) k (get_or masks k 0)) (get_or masks k 0)

-- word v has no flag, or is good
unfoldable pub flag_stands : List ℕ → List ℕ → ℕ → Bool
flag_stands flags good v = either (eqb (get_or flags v 0) 0) (not (eqb (get_or good v 0) 0))

-- the flags of the words that are good by these marks, in a buffer of zeros
unfoldable pub good_flags : List ℕ → List ℕ → List ℕ
good_flags s marks = flags_after s marks (replicate most_words 0)

-- the first of n indices that doesn't pass, if there is one
unfoldable pub first_failing : (ℕ → Bool) → ℕ → Option ℕ
first_failing p n = cond (all_below p n) None (Some (first_not p n))
