-- `targets_ok` meets its contract: each line is right by the one before it and by its sides. Assumes nothing.
use Rattle.std.proofs.Common.{rules, tests, arith, [], length, refl}
use Rattle.std.specs.Prelude.{get_or}
use Rattle.theory.specs.Fold.{both}
use Rattle.reader.specs.code.Steps.{follows, target_line}
use Rattle.sheet.proofs.ChainLaws.{all_indices}
use Rattle.reader.proofs.CheckLaws.{target_sided, target_same, targets_are, lines_right}
use Rattle.reader.proofs.lines.targets_ok.Goals as goal

pub returns : goal.returns
returns c =
    let l = c.as_chunks.ensures in
    let xs = c.as_chunks.result.0.now in
    let line = target_line c.args.p.now c.args.actions in
    lines_right 3 c.args.c.now xs l.front l.front_len (omega arith) (target_sided c.args.p.now c.args.actions c.args.c.now) line
    (target_same c.args.p.now c.args.actions c.args.c.now xs l.front l.front_len)
    (targets_are c.args.p.now c.args.actions c.args.c.now (omega (arith, l.back_len, c.in_default-empty.len_below)))
    (all_indices (λ k. both (follows xs k) (line (get_or xs k []))) (length xs) refl c.all.ensures.ran (λ x b q k. search (rules, tests)))
