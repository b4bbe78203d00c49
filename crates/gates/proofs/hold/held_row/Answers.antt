-- `held_row` meets its contract. Assumes nothing.
use Rattle.std.proofs.Common.{rules, tests}
use Rattle.sheet.proofs.ChainLaws.{made_is}
use Rattle.gates.specs.code.Held.{cell_held, row_held}
use Rattle.gates.proofs.hold.held_row.Goals as goal

pub returns-else-row-eq-ABSENT : goal.returns-else-row-eq-ABSENT
unfolding row_held
returns-else-row-eq-ABSENT c = made_is _ (cell_held c.args.actions c.args.row.now) _ _ 0 8 (λ i y q l k. search (rules, tests)) c.from_fn.ensures.items
