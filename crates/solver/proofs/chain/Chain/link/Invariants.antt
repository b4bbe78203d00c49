-- `link` meets its contract. The places passed are linked. Assumes nothing.
use Rattle.std.proofs.Common.{◌≡◌, ℕ, ◌<◌, ◌≤◌, get_or}
use Rattle.solver.specs.code.Chains.{Linked}
use Rattle.solver.proofs.chain.Chain.link.Given as goal

abbrev pub invariant-loop-i : goal.invariant-loop-i
invariant-loop-i g l =
    ((y : ℕ) → get_or l.self.heads y 0 ≤ l.i)
    × ((f : ℕ → ℕ) → ((i r : ℕ) → i < l.n → goal.K-post g l.key i r → r ≡ f i) → Linked f l.i l.self.heads l.self.links)
