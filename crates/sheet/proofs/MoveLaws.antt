-- The index of first lines (specs/code/Arrays.antt), as the code of src/moves.rt fills it. Assumes nothing.
use Prim.Native.Nat.{ℕ, ◌+◌, ◌≤◌}
use mathlib.Core.Path.{◌≡◌, refl}
use mathlib.Core.Bool.{Bool, true, false, cond}
use mathlib.Core.List.{List}
use mathlib.Core.Logic.{⊎_elim}
use native.Mathlib.Omega.{arith}
use lib.ListN.{length}
use borrow.Author.Rules.{rules}
use Rattle.std.proofs.Common.{Option, Some, None}
use Rattle.std.specs.Option.{unwrap_or}
use borrow.Author.Tests.{ltb-true, lt-ltb}
use Rattle.theory.specs.Fold.{all_below, first_not}
use Rattle.theory.proofs.Fold.{bool, all_none, below?, all_at, all_below_lem, first, first_suc, first_stops, first_ends}
use Rattle.theory.proofs.Filling.{filled, filled_none, filled_more, filled_done}
use Rattle.sheet.specs.code.Arrays.{from_below, first_line, firsts_of, line_count, index_entries}

-- the line that a search finds, or the number of lines
pub line_found : (u : List ℕ) (q : ℕ) {o : Option ℕ} {n : ℕ} → n ≡ line_count u
    → o ≡ cond (all_below (from_below u q) n) None (Some (first_not (from_below u q) n)) → unwrap_or o n ≡ first_line u q
unfolding first_line
line_found u q {n = n} s e = rw (← s, first_suc (from_below u q) n, e) (by (all_below (from_below u q) n))
  where
    by : (b : Bool) → unwrap_or (cond b None (Some (first_not (from_below u q) n))) n ≡ cond b n (first_not (from_below u q) n)
    by true = refl
    by false = refl

module _ (u : List ℕ) (q : ℕ) where
  pub record Skipped (i : ℕ) : Type 0 where
    pub inside : i ≤ line_count u
    pub passed : all_below (from_below u q) i ≡ true

  pub first_skips : Skipped (first_line u q)
  unfolding first_line
  first_skips =
      ⊎_elim
      (λ (e : all_below (from_below u q) (line_count u) ≡ true).
      rw (first_suc (from_below u q) (line_count u), e) (record { inside = omega arith; passed = e }))
      (λ (e : all_below (from_below u q) (line_count u) ≡ false).
      let f = first (from_below u q) (line_count u) e in
      rw (first_suc (from_below u q) (line_count u), e)
      (record { inside = omega (arith, f.below); passed = all_below_lem (from_below u q) _ f.before }))
      (bool (all_below (from_below u q) (line_count u)))

-- the next position's lines begin no earlier
pub skip_more : (u : List ℕ) (q i : ℕ) → all_below (from_below u q) i ≡ true → all_below (from_below u (q + 1)) i ≡ true
unfolding from_below
skip_more u q i e =
    all_below_lem (from_below u (q + 1)) i
    (λ j h. lt-ltb _ (q + 1) (omega (arith, ltb-true _ q (all_at (from_below u q) i e j h))))

pub index_inside : (u : List ℕ) (q : ℕ) {r : ℕ} → r ≡ first_line u q → r ≤ line_count u
index_inside u q e = rw e (first_skips u q).inside

pub index_passed : (u : List ℕ) (q : ℕ) {r : ℕ} → r ≡ first_line u q → all_below (from_below u (q + 1)) r ≡ true
index_passed u q e = rw e (skip_more u q _ (first_skips u q).passed)

pub index_done : (u l : List ℕ) (q : ℕ) → length l ≡ index_entries → q ≤ index_entries → index_entries ≤ q → filled (first_line u) q l ≡ firsts_of u
unfolding firsts_of
index_done u l q n h g = filled_done (first_line u) l q index_entries refl n h g

pub ruleset indexing = (rules, all_none, filled_none, filled_more, index_inside, index_passed, index_done)
