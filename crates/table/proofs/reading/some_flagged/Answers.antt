-- `some_flagged` meets its contract. Assumes nothing.
use Rattle.std.proofs.Common.{rules, tests, not, eqb, refl}
use Rattle.sheet.proofs.ChainLaws.{any_slice}
use Rattle.theory.specs.Table.{flagged}
use Rattle.table.specs.TableSheet.{some_flagged}
use Rattle.table.proofs.TableLaws.{words_of}
use Rattle.table.proofs.reading.some_flagged.Goals as goal

pub returns : goal.returns
unfolding some_flagged flagged
returns c =
    any_slice (λ b. not (eqb b 0)) (flagged (words_of c.args.w.now)) 0 c.args.w.now c.iter.ensures.rest (λ k l. refl) c.any.ensures.ran
    (λ x b q k. search (rules, tests))
