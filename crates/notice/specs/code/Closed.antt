-- The P body in which a notice's positions are unsafe. Assumes nothing.
use Rattle.std.specs.Prelude.{ℕ, cond, List, eqb, length, get_or}
use Rattle.theory.specs.Fold.{tabulate}
use Rattle.theory.specs.Buffer.{over}
use Rattle.theory.specs.Closing.{listed}

-- own and safe to own and unsafe, yard and safe to yard and unsafe
unfoldable pub closed_byte : ℕ → ℕ
closed_byte b = cond (eqb b 0) 1 (cond (eqb b 2) 3 b)

unfoldable pub closed_at : List ℕ → List ℕ → ℕ → ℕ
closed_at p ps q = cond (listed ps q) (closed_byte (get_or p q 0)) (get_or p q 0)

unfoldable pub closed_body : List ℕ → List ℕ → List ℕ
closed_body p ps = tabulate (closed_at p ps) 0 (length p)

-- it stands at the front of a buffer
abbrev pub closed_after : List ℕ → List ℕ → List ℕ → List ℕ
closed_after p ps buffer = over (closed_body p ps) buffer
