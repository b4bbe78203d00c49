-- `all_leave` meets its contract. Assumes nothing.
use Rattle.std.proofs.Common.{rules, tests, length, refl}
use Rattle.reader.specs.code.Steps.{leaves_by}
use Rattle.sheet.proofs.ChainLaws.{all_indices}
use Rattle.reader.proofs.CheckLaws.{leave_all}
use Rattle.reader.proofs.lines.all_leave.Goals as goal

pub returns : goal.returns
returns c =
    leave_all _ _ _ c.requires c.begun-targets.ensures c.begun-moves.ensures
    (all_indices (leaves_by c.args.p.now c.begun-targets.result c.begun-moves.result) (length c.args.p.now) refl c.all.ensures.ran (λ x b q k. search (rules, tests)))
