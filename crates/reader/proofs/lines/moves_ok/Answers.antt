-- `moves_ok` meets its contract: each line is right by the one before it and by its sides. Assumes nothing.
use Rattle.std.proofs.Common.{rules, tests, arith, [], length, refl}
use Rattle.std.specs.Prelude.{get_or}
use Rattle.theory.specs.Fold.{both}
use Rattle.reader.specs.code.Steps.{follows, move_line}
use Rattle.sheet.proofs.ChainLaws.{all_indices}
use Rattle.reader.proofs.CheckLaws.{move_sided, move_same, moves_are, lines_right}
use Rattle.reader.proofs.lines.moves_ok.Goals as goal

pub returns-in_default-empty : goal.returns-in_default-empty
returns-in_default-empty c =
    let l = c.as_chunks.ensures in
    let few = c.if-lines-le-MOST_MOVES.true in
    let xs = c.as_chunks.result.0.now in
    let line = move_line c.args.p.now in
    lines_right 2 c.args.u.now xs l.front l.front_len (omega arith) (move_sided c.args.p.now c.args.u.now) line
    (move_same c.args.p.now c.args.u.now xs l.front l.front_len)
    (moves_are c.args.p.now c.args.u.now (omega (arith, l.back_len, c.in_default-empty.len_below)) (omega (arith, l.front_len, few)))
    (all_indices (λ k. both (follows xs k) (line (get_or xs k []))) (length xs) refl c.all.ensures.ran (λ x b q k. search (rules, tests)))
