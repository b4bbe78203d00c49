-- `link_both` meets its contract. Assumes nothing.
use Rattle.std.proofs.Common.{rules, refl}
use Rattle.sheet.specs.code.Arrays.{to_at}
use Rattle.solver.specs.code.Chains.{cell_key}
use Rattle.solver.proofs.SweepLaws.{index_both}
use Rattle.solver.proofs.index.link_both.Goals as goal

pub returns : goal.returns
unfolding to_at
returns c =
    index_both _ _ _ _ refl (rw c.line_count.ensures at (c.link.ensures (to_at c.args.game.now.moves.now) (λ i r h e. search rules)))
    (c.link-2.ensures (cell_key c.args.game.now.grid) (λ i r h e. search rules))
