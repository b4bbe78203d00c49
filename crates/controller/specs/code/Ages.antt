-- Where a report goes, by its age. Assumes nothing.
use Rattle.std.specs.Prelude.{ℕ, ◌+◌, ◌-◌, leb}
use Rattle.theory.specs.Answer.{Answer, accepted, check}

-- refusals 16 to 18 of a report under a highest position and a delay, n being the newest index, 2i; else its age
unfoldable pub age_with : ℕ → ℕ → ℕ → ℕ → ℕ → Answer ℕ
age_with highest d n k p = check (leb p highest) 16 (check (leb n (k + d)) 17 (check (leb k n) 18 (accepted (n - k))))
