-- A lent buffer that is filled from its front. Assumes nothing.
use Rattle.std.specs.Prelude.{ℕ, List, ◌++◌, length, drop}

-- "entries beyond are untouched"
unfoldable pub over : List ℕ → List ℕ → List ℕ
over entries buffer = entries ++ drop (length entries) buffer
