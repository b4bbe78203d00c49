-- Which targets' callers are marked already. A note stands for a target t and a word v, at t * words + v. Assumes nothing.
use Rattle.std.specs.Prelude.{ℕ, ◌+◌, ◌*◌, ◌/◌, ◌%◌, ◌≡◌, Bool, true, false, get_or}
use mathlib.Core.List.{List, Memᴰ}
use Rattle.theory.specs.Table.{bit}
use Rattle.sheet.specs.Limits.{most_actions}
use Rattle.solver.specs.code.Chains.{chain, head_of}

-- nothing is noted
pub record Clear (seen : List Bool) : Type 0 where
  pub none : (s : ℕ) → get_or seen s false ≡ false

-- where a target and a word are noted, the word's last action is out at every caller of the target
pub record Seen (heads cells : List ℕ) (words younger actions : ℕ) (seen : List Bool) (masks : List ℕ) : Type 0 where
  pub out : (s : ℕ) → get_or seen s false ≡ true → (x : ℕ) → Memᴰ x (chain cells (head_of heads (s / words)))
      → bit (get_or masks ((x / most_actions) * words + (x % most_actions) * younger + (s % words) / actions) 0) ((s % words) % actions) ≡ false
