-- `positions_ok` meets its contract. Assumes nothing.
use Rattle.std.proofs.Common.{arith, rules, tests}
use Rattle.std.proofs.lemmas.Bool.Decides.{nat_tests}
use Rattle.std.specs.Prelude.{is_some}
use Rattle.sheet.specs.Kinds.{kind_of, known_at}
use Rattle.sheet.proofs.ChainLaws.{all_slice}
use Rattle.reader.proofs.CheckLaws.{known, positions_all}
use Rattle.reader.proofs.checks.positions_ok.Goals as goal

pub returns-then-contains : goal.returns-then-contains
returns-then-contains c =
    let p = c.args.p.now in
    positions_all p (grind (arith, nat_tests)) (grind (arith, nat_tests))
    (all_slice (λ b. is_some (kind_of b)) (known_at p) 0 p c.iter.ensures.rest (known p) c.all.ensures.ran (λ x b q k. search (rules, tests)))
