-- `held_ok` meets its contract, by the law of a test of the first entries. Assumes nothing.
use Rattle.std.proofs.Common.{rules, refl, ltb, arith, ap, ◌∙◌}
use lib.ListN.{get_or-eq_default}
use borrow.Author.Tests.{le-leb, leb-true}
use Rattle.std.specs.Slice.Iter.{iter_rest}
use Rattle.state.specs.State.{held_at}
use Rattle.state.proofs.CheckLaws.{all_taken}
use Rattle.state.proofs.checks.held_ok.Goals as goal

pub returns : goal.returns
unfolding held_at
returns c =
    all_taken (held_at c.args.actions c.args.last) c.args.last c.args.n
    (λ k l h. let z = h 0 (search rules) in rw (get_or-eq_default c.args.last 0 l) (le-leb 1 c.args.actions (omega (arith, leb-true _ _ z)))) _ (λ a. ltb a c.args.actions) 0
    (ap iter_rest c.take.ensures.source ∙ c.iter.ensures.rest) c.take.ensures.count
    (λ k l. refl) c.all.ensures.ran (λ x b q k. search rules)
