-- Taking bits out of masks, node by node, until what is left stands by the judging rule. Assumes nothing.
use Rattle.std.specs.Prelude.{ℕ, zero, suc, ◌+◌, ◌<◌, ◌≡◌, Bool, true, false, not, List, [], ◌∷◌, eqb, leb, ltb, length, get_or, set}
use Rattle.theory.specs.Fold.{both, either}
use Rattle.theory.specs.Rounds.{Arena, spoilt_by}
use Rattle.theory.specs.Table.{bit}
use Rattle.theory.specs.Closing.{SizedMasks, BelowMasks}
use Rattle.walk.specs.declared.arena.Arena.{Arena as Arrays}
use Rattle.walk.specs.declared.level.Level.{Level}
use Rattle.walk.specs.code.Levels.{arena_of}
use Rattle.walk.specs.code.Nodes.{is_fitted}
use Rattle.walk.specs.code.Walks.{fallen_by}
use Rattle.rule.specs.code.Parts.{part_of}

-- the nodes whose mask is gone count as fallen
unfoldable pub fallen_in : List ℕ → ℕ → Bool
fallen_in masks k = both (ltb k (length masks)) (eqb (get_or masks k 0) 0)

-- the marks show them to the walk
pub record Shown (masks marks : List ℕ) : Type 0 where
  pub same : (k : ℕ) → fallen_by 1 marks k ≡ fallen_in masks k

-- the part of node k's mask that may stand, and the masks once it alone is left there
unfoldable pub part_now : Arena → List ℕ → ℕ → ℕ
part_now E masks k = part_of E (fallen_in masks) k (get_or masks k 0)

unfoldable pub cut_at : Arena → List ℕ → ℕ → List ℕ
cut_at E masks k = set masks k (part_now E masks k)

-- one node after the other, each by what the ones before it have left
unfoldable pub swept_to : Arena → List ℕ → ℕ → List ℕ
swept_to E masks zero = masks
swept_to E masks (suc k) = cut_at E (swept_to E masks k) k

-- whether any of them lost a bit
unfoldable pub changed_to : Arena → List ℕ → ℕ → Bool
changed_to E masks zero = false
changed_to E masks (suc k) =
    either (changed_to E masks k) (not (eqb (get_or (cut_at E (swept_to E masks k) k) k 0) (get_or (swept_to E masks k) k 0)))

-- the judging rule allows every mask
pub record Standing (E : Arena) (masks : List ℕ) : Type 0 where
  pub right : (k : ℕ) → k < E.nodes → (get_or masks k 0 ≡ 0 → ⊥) → E.right k ≡ true
  pub safe : (k : ℕ) → k < E.nodes → (get_or masks k 0 ≡ 0 → ⊥) → E.safe k ≡ true
  pub unspoilt : (k c : ℕ) → k < E.nodes → c < E.actions → bit (get_or masks k 0) c ≡ true → spoilt_by E (fallen_in masks) k c ≡ false

-- bits are only taken away, and none of any part that stands
pub record Cut (E : Arena) (masks masks' : List ℕ) : Type 0 where
  pub size : length masks' ≡ length masks
  pub below : BelowMasks masks' masks
  pub holds : (x : List ℕ) → SizedMasks E x → Standing E x → BelowMasks x masks → BelowMasks x masks'

-- every node has just the part of its mask that may stand
pub record Pruned (E : Arena) (masks masks' : List ℕ) : Type 0 where
  pub cut : Cut E masks masks'
  pub whole : (k : ℕ) → k < E.nodes → part_now E masks' k ≡ get_or masks' k 0

-- the sum of the masks
unfoldable pub total : List ℕ → ℕ
total [] = 0
total (m ∷ masks) = m + total masks

-- a level that is small and has an action, and masks for its nodes
unfoldable pub is_prunable : ℕ → Level → ℕ → Bool
is_prunable positions l entries = both (is_fitted positions l entries) (leb 1 l.actions)

-- what is left: nothing changed where level and masks don't fit
unfoldable pub PrunedBy : Bool → Arena → List ℕ → List ℕ → Type 0
PrunedBy true E before after = Pruned E before after
PrunedBy false E before after = after ≡ before

-- over the arrays, for any level and masks
abbrev pub PrunedLeft : List ℕ → List (List ℕ) → List ℕ → List ℕ → Level → List ℕ → List ℕ → Type 0
PrunedLeft p g u f l before after = PrunedBy (is_prunable (length p) l (length before)) (arena_of p g u f l) before after

-- what is left of the masks over the code's arena
abbrev pub PrunedOver : Arrays → List ℕ → List ℕ → Type 0
PrunedOver a = PrunedLeft a.positions.now a.grid.now a.moves.now a.firsts.now a.level
