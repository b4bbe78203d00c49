-- `sheet::form::contents_ok` meets its contract, by the laws of proofs/FormLaws.antt. The loop has passed k right entries, and body k must begin at `at`.
-- Assumes nothing.
use mathlib.Core.Path.{◌≡◌}
use mathlib.Core.Bool.{true}
use lib.ListN.{length}
use Rattle.theory.specs.Fold.{all_below}
use Rattle.sheet.specs.Form.{place_of, entry_ok}
use Rattle.sheet.proofs.form.contents_ok.Given as goal

abbrev pub invariant-loop-k : goal.invariant-loop-k
invariant-loop-k l = (all_below (entry_ok 2 l.letters l.s) l.k ≡ true) × (l.at ≡ place_of 2 (length l.letters) l.s l.k)
