-- What a P byte says of its position: "0 own and safe, 1 own and unsafe, 2 yard and safe, 3 yard and unsafe". Assumes nothing.
use Rattle.std.specs.Prelude.{ℕ, Bool, true, false, not, cond, List, Option, None, Some, eqb, ltb, length, get_or}
use Rattle.sheet.specs.declared.kinds.Kind.{Kind}

abbrev pub position : Bool → Bool → Option Kind
position controller safe = Some (record { controller = controller; safe = safe })

unfoldable pub kind_of : ℕ → Option Kind
kind_of b =
    cond (eqb b 0) (position true true)
    (cond (eqb b 1) (position true false)
    (cond (eqb b 2) (position false true) (cond (eqb b 3) (position false false) None)))

-- the kind of position q; a position that does not exist has none
unfoldable pub kind_at : List ℕ → ℕ → Option Kind
kind_at p q = cond (ltb q (length p)) (kind_of (get_or p q 0)) None

unfoldable pub is_known : Option Kind → Bool
is_known (Some kind) = true
is_known None = false

unfoldable pub is_controller : Option Kind → Bool
is_controller (Some kind) = kind.controller
is_controller None = false

unfoldable pub is_environment : Option Kind → Bool
is_environment (Some kind) = not kind.controller
is_environment None = false

unfoldable pub is_safe : Option Kind → Bool
is_safe (Some kind) = kind.safe
is_safe None = false

unfoldable pub known_at : List ℕ → ℕ → Bool
known_at p q = is_known (kind_at p q)

-- position q exists and is own
unfoldable pub controller_at : List ℕ → ℕ → Bool
controller_at p q = is_controller (kind_at p q)

-- position q exists and is the yard's
unfoldable pub environment_at : List ℕ → ℕ → Bool
environment_at p q = is_environment (kind_at p q)

unfoldable pub safe_at : List ℕ → ℕ → Bool
safe_at p q = is_safe (kind_at p q)
