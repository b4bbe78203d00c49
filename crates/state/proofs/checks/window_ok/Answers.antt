-- `window_ok` meets its contract, by the law of a test of the first entries. Assumes nothing.
use Rattle.std.proofs.Common.{rules, refl, leb, not, ap, ◌∙◌}
use lib.ListN.{get_or-eq_default}
use Rattle.std.specs.Slice.Iter.{iter_rest}
use Rattle.theory.specs.Fold.{either}
use Rattle.state.specs.State.{unknown, within_at, observed_in}
use Rattle.state.specs.declared.state.Slot.{Slot}
use Rattle.state.proofs.CheckLaws.{all_taken}
use Rattle.state.proofs.checks.window_ok.Goals as goal

pub returns : goal.returns
unfolding within_at observed_in either
returns c =
    all_taken (within_at c.args.highest c.args.window) c.args.window c.args.n (λ k l h. rw (get_or-eq_default c.args.window unknown l) refl) _
    (λ (w : Slot). either (not w.known) (leb w.position c.args.highest)) unknown (ap iter_rest c.take.ensures.source ∙ c.iter.ensures.rest)
    c.take.ensures.count (λ k l. refl) c.all.ensures.ran (λ x b q k. search rules)
