-- `work` meets its contract. Assumes nothing.
use Rattle.std.proofs.Common.{Bool, false, refl}
use lib.ListN.{length-replicate, get_or-replicate}
use Rattle.sheet.specs.Limits.{most_nodes}
use Rattle.solver.proofs.SeenLaws.{clear_part}
use Rattle.solver.proofs.work.work.Goals as goal

pub all_rounds-requires : goal.all_rounds-requires
all_rounds-requires c = let p = c.requires in (
  p.0,
  p.2,
  refl,
  clear_part _ _ (length-replicate {A = Bool} most_nodes false) (λ i h. get_or-replicate {A = Bool} most_nodes i false false h) p.0.sized.few_nodes,
)
