-- `mark_target` meets its contract. Assumes nothing.
use Rattle.std.proofs.Common.{rules}
use Rattle.solver.proofs.SeenLaws.{seen_quiet, seen_kept, seen_noted}
use Rattle.solver.proofs.index.Index.mark_target.Goals as goal

pub returns-then-seen-s-clause-calls : goal.returns-then-seen-s-clause-calls
returns-then-seen-s-clause-calls c = (search rules, seen_quiet _ _ _ c.args.spot.fits _ _ _ _ c.requires.1 c.if-seen-s.true)

pub returns-then-work-clause-notes : goal.returns-then-work-clause-notes
returns-then-work-clause-notes c = seen_kept _ _ _ _ c.mark_callers.ensures.1 c.requires.1

pub returns-then-s-seen-2-clause-notes : goal.returns-then-s-seen-2-clause-notes
returns-then-s-seen-2-clause-notes c =
    seen_noted _ _ _ c.args.spot.fits _ _ _ _ c.requires.1 c.mark_callers.ensures.1 c.if-work.false c.if-s-seen-2.true

pub returns-else-s-seen-2-clause-notes : goal.returns-else-s-seen-2-clause-notes
returns-else-s-seen-2-clause-notes c = seen_kept _ _ _ _ c.mark_callers.ensures.1 c.requires.1
