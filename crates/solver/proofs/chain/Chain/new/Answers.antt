-- `new` meets its contract. Assumes nothing.
use mathlib.Core.Path.{refl}
use native.Mathlib.Omega.{arith}
use Prim.Native.Nat.{ℕ}
use lib.ListN.{length-replicate}
use Rattle.theory.proofs.Buffer.{zeros}
use Rattle.solver.proofs.ChainLaws.{linked_none}
use Rattle.solver.proofs.chain.Chain.new.Goals as goal

pub invariant_of-result-clause-heads_end : goal.invariant_of-result-clause-heads_end
invariant_of-result-clause-heads_end g c = λ x. omega (arith, zeros 257 x)

pub invariant_of-result-clause-links_end : goal.invariant_of-result-clause-links_end
invariant_of-result-clause-links_end g c = λ i. omega (arith, zeros g.row.N i)

pub invariant_of-result-clause-whole : goal.invariant_of-result-clause-whole
invariant_of-result-clause-whole g c = length-replicate {A = ℕ} g.row.N 0

pub returns : goal.returns
returns g c = λ f. linked_none f _ _ refl (zeros 257) (zeros g.row.N)
