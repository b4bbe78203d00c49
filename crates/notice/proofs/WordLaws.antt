-- The first words that a notice leaves, as the code of src/flags.rt works them out. Assumes nothing.
use Prim.Native.Nat.{ℕ, ◌≤◌}
use mathlib.Core.Path.{◌≡◌, ◌∙◌, ap}
use mathlib.Core.Bool.{Bool}
use mathlib.Core.List.{List}
use native.Mathlib.Omega.{arith}
use lib.ListN.{length, get_or}
use borrow.Author.Rules.{rules}
use Rattle.theory.proofs.Filling.{filled, filled_none, filled_more, filled_above, filled_over}
use Rattle.notice.specs.code.Left.{kept_flag_at, kept_after}

-- all flags

module _ (shut : Bool) (flags good : List ℕ) where
  -- the flag at hand is still the buffer's own
  pub keep_now : (v : ℕ) → get_or (filled (kept_flag_at shut flags good) v good) v 0 ≡ get_or good v 0
  keep_now v = filled_above (kept_flag_at shut flags good) good v v (omega arith)

  pub keep_done : (v : ℕ) → v ≤ length flags → length flags ≤ v → filled (kept_flag_at shut flags good) v good ≡ kept_after shut flags good
  keep_done v a b =
      let s : v ≡ length flags = omega arith in
      ap (λ n. filled (kept_flag_at shut flags good) n good) s ∙ filled_over (kept_flag_at shut flags good) good (length flags)

pub ruleset keeping = (rules, filled_none, filled_more, keep_now, keep_done)
