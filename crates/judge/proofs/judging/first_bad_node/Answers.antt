-- `first_bad_node` meets its contract. Assumes nothing.
use Rattle.std.proofs.Common.{◌∙◌, ap, sym}
use Rattle.sheet.specs.code.Arrays.{firsts_of}
use Rattle.judge.proofs.JudgeLaws.{sized_here, node_search}
use Rattle.judge.proofs.judging.first_bad_node.Goals as goal

pub invariant_of-first_unsound : goal.invariant_of-first_unsound
invariant_of-first_unsound c =
    let g = c.of-game.ensures in
    let a = c.arena-arena.ensures in
    record { fits = sized_here c.args.sheet.now c.args.l c.requires _ (a.positions ∙ g.positions) _ (rw (← a.positions, g.layout) at a.level) }

pub returns : goal.returns
returns c =
    let g = c.of-game.ensures in
    let a = c.arena-arena.ensures in
    node_search c.args.sheet.now c.args.l c.requires _ (a.positions ∙ g.positions) _ (rw (← a.positions, g.layout) at a.level) _ _ _ (a.grid ∙ g.grid)
    (a.moves ∙ g.moves) (a.firsts ∙ c.of-game.result.indexed ∙ ap firsts_of (sym a.moves)) _ _ c.first_unsound.ensures
