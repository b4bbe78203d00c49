-- The code of src/sweep.rt. Assumes nothing.
use Prim.Native.Nat.{ℕ, ◌/◌, ◌<◌}
use mathlib.Core.Path.{◌≡◌, ◌∙◌, ap}
use mathlib.Core.Bool.{true, false}
use mathlib.Core.List.{List}
use native.Mathlib.Omega.{arith}
use Rattle.sheet.specs.code.Arrays.{to_at, line_count}
use Rattle.walk.specs.declared.level.Level.{Level}
use Rattle.solver.specs.code.Spread.{Spot}
use Rattle.solver.specs.code.Sizes.{most_cells}
use Rattle.solver.specs.code.Work.{Work, marks_to}
use Rattle.solver.specs.code.Chains.{head_of, Linked, cell_key}
use Rattle.solver.specs.code.Spread.{even_nodes, odd_nodes}
use Rattle.solver.specs.code.Sweep.{Index, Indexed, spot_at, nodes_before, spread_to}
use borrow.Author.Rules.{rules}

module _ (x : Index) (l : Level) (younger n : ℕ) (w : Work) (j : ℕ) where
  pub spread_odd_is : (s : Spot) {v : Work} → s ≡ spot_at l younger n j → l.odd ≡ true
      → v ≡ marks_to s.n s.action w (odd_nodes x.moves x.lines x.reaching x.cells s (head_of x.leading (j / l.words))) → v ≡ spread_to x l younger n w j
  unfolding spread_to nodes_before
  spread_odd_is s e o r =
      r
      ∙ ap (λ (s : Spot). marks_to s.n s.action w (odd_nodes x.moves x.lines x.reaching x.cells s (head_of x.leading (j / l.words)))) e
      ∙ rw o

  pub spread_even_is : (s : Spot) {v : Work} → s ≡ spot_at l younger n j → l.odd ≡ false
      → v ≡ marks_to s.n s.action w (even_nodes x.moves x.lines x.leading x.cells s (head_of x.reaching (j / l.words))) → v ≡ spread_to x l younger n w j
  unfolding spread_to nodes_before
  spread_even_is s e o r =
      r
      ∙ ap (λ (s : Spot). marks_to s.n s.action w (even_nodes x.moves x.lines x.leading x.cells s (head_of x.reaching (j / l.words)))) e
      ∙ rw o

-- the index of a U body and a grid
module _ (u : List ℕ) (g : List (List ℕ)) (delay : ℕ) (x : Index) (body : x.moves ≡ u) where
  pub index_none : delay < 2 → Indexed u g delay x
  index_none h = record { body = body; lines_linked = λ d. absurd (omega arith); cells_linked = λ d. absurd (omega arith) }

  pub index_both : Linked (to_at u) (line_count u) x.reaching x.lines → Linked (cell_key g) most_cells x.leading x.cells → Indexed u g delay x
  index_both a b = record { body = body; lines_linked = λ d. a; cells_linked = λ d. b }

pub ruleset linking = (rules, index_none, index_both)
