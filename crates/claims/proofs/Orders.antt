-- Every case of specs/cases/Orders.antt holds of the definitions, by computation; and the claims of proofs/Notices are not empty: what they
-- ask holds of the fork and its made sheet, by computation too. Assumes nothing.
use Prim.Native.Nat.{ℕ}
use mathlib.Core.Path.{◌≡◌, refl, sym, ◌∙◌, ap}
use mathlib.Core.Bool.{false}
use mathlib.Core.List.{List, [], ◌∷◌, map}
use native.Mathlib.Omega.{arith}
use lib.ListN.{get_or}
use borrow.Author.Tests.{leb-true}
use Rattle.theory.specs.Fold.{either, any_of}
use Rattle.theory.specs.Answer.{accepted}
use Rattle.theory.specs.Closing.{listed}
use Rattle.theory.proofs.Fold.{either_first, either_inside, either_swap}
use Rattle.theory.proofs.Notices.{listed_append}
use Rattle.maker.specs.Making.{won, make_answer}
use Rattle.notice.specs.cases.Notices.{fork, fork_by, fork_ours}
use Rattle.notice.proofs.Computing.{notice_computes}
use Rattle.claims.specs.Notices.{Accepts, size_in, sheet_after, Unaltered, Series, first, next, named}
use Rattle.claims.specs.cases.Orders.{lent_for, result_of, computed, expected, fork_at2, fork_wrong, orders}
use Rattle.claims.proofs.Computing.{claims_compute}

pub orders_met : map computed orders ≡ map expected orders
unfolding notice_computes sheet_after size_in fork fork_by fork_ours fork_at2 fork_wrong result_of computed expected orders
orders_met = refl

-- two notices are accepted on one sheet, which is one that we make
pub fork_one : Accepts (fork 1) fork_ours (3 ∷ []) (lent_for fork_ours)
unfolding notice_computes fork fork_by fork_ours
fork_one = (_, refl)

pub fork_other : Accepts (fork 1) fork_ours (0 ∷ []) (lent_for fork_ours)
unfolding notice_computes fork fork_by fork_ours
fork_other = (_, refl)

pub fork_made : make_answer (fork 1) 4 4 29 ≡ accepted (won fork_ours)
unfolding claims_compute notice_computes fork fork_by fork_ours
fork_made = refl

-- and each of them after the other
pub fork_series : Series (fork 1) fork_ours ((0 ∷ []) ∷ (3 ∷ []) ∷ []) (fork_by (0 ∷ 0 ∷ []) (0 ∷ 0 ∷ 1 ∷ 0 ∷ []))
unfolding notice_computes sheet_after size_in fork fork_by fork_ours
fork_series = next (first (3 ∷ []) (lent_for fork_ours) fork_one) (0 ∷ []) (lent_for fork_ours) (_, refl)

pub fork_turned : Series (fork 1) fork_ours ((3 ∷ []) ∷ (0 ∷ []) ∷ []) (fork_by (0 ∷ 0 ∷ []) (0 ∷ 0 ∷ 1 ∷ 0 ∷ []))
unfolding notice_computes sheet_after size_in fork fork_by fork_ours
fork_turned = next (first (0 ∷ []) (lent_for fork_ours) fork_other) (3 ∷ []) (lent_for fork_ours) (_, refl)

-- they name the same positions, and so do two lists of one notice
pub fork_named : (p : ℕ) → named ((0 ∷ []) ∷ (3 ∷ []) ∷ []) p ≡ named ((3 ∷ []) ∷ (0 ∷ []) ∷ []) p
unfolding named any_of
fork_named p =
    let a = listed (0 ∷ []) p in
    let b = listed (3 ∷ []) p in
    ap (either a) (either_first b false refl) ∙ either_swap a b ∙ sym (ap (either b) (either_first a false refl))

pub fork_again : (p : ℕ) → listed (3 ∷ 3 ∷ []) p ≡ listed (3 ∷ []) p
fork_again p = listed_append (3 ∷ []) (3 ∷ []) p ∙ either_inside (listed (3 ∷ []) p) (listed (3 ∷ []) p) (λ l. l)

-- a sheet that is not sound an empty notice shrinks, rightly
pub wrong_accepted : Accepts (fork 1) fork_wrong [] (lent_for fork_wrong)
unfolding notice_computes fork fork_by fork_wrong
wrong_accepted = (_, refl)

pub wrong_shrinks : Unaltered (fork 1) fork_wrong [] → ⊥
unfolding notice_computes sheet_after size_in fork fork_by fork_wrong
wrong_shrinks u =
    let e = u.sheet (lent_for fork_wrong) (leb-true _ _ refl) in
    let z : ◌≡◌ {A = ℕ} 0 3 = ap (λ (v : List ℕ). get_or v 21 0) e in
    omega arith
