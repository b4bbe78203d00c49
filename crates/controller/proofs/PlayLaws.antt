-- Laws of theory's plays that the accuracy claim uses: the actions of a play, and one turn more of the exact and of the worked
-- play. Assumes nothing.
use Prim.Native.Nat.{ℕ, zero, suc, ◌+◌, ◌*◌, ◌<◌}
use mathlib.Core.Path.{◌≡◌, refl, sym, ◌∙◌, ap}
use mathlib.Core.List.{List, ◌∷◌}
use native.Mathlib.Omega.{arith}
use lib.ListN.{length, get_or, take}
use lib.Seq.{take-nil}
use Rattle.theory.specs.Game.{Game, Legal}
use Rattle.theory.specs.Play.{Play, origin, act, move, actions_of, last_actions, IsPlay, begun, acted, moved, Rule}
use Rattle.theory.specs.Table.{Table}
use Rattle.theory.specs.Exact.{some, going, arrive, advance, turn_by, play_by, exact_choice, exact, worked}
use Rattle.theory.proofs.Exact.{Goes}
use Rattle.controller.specs.Controller.{word_of}

-- the word of the last n actions, from their list
pub word_actions : (A : ℕ) (π : Play) (n : ℕ) → last_actions A π n ≡ word_of A (take n (actions_of π))
unfolding last_actions actions_of word_of
word_actions A origin n = sym (ap (word_of A) (take-nil n))
word_actions A (move π r) n = word_actions A π n
word_actions A (act π c q) zero = refl
word_actions A (act π c q) (suc n) = ap (λ w. w * A + c) (word_actions A π n)

-- what a play of the game has are actions of the game
pub action_small : {G : Game} → Legal G → {π : Play} → IsPlay G π → (k : ℕ) → k < length (actions_of π)
    → get_or (actions_of π) k 0 < G.actions
unfolding actions_of
action_small legal begun k h = absurd (omega arith)
action_small legal (acted c q p e) zero h = (legal.targets _ c q e).action
action_small legal (acted c q p e) (suc k) h = action_small legal p k (omega arith)
action_small legal (moved r p m) k h = action_small legal p k h

module _ (G : Game) (d : ℕ) (T : Table) (rule : Rule) (n : ℕ) (g : Goes G d T rule n) where
  -- the play a turn later
  abbrev pub further : Play
  further = move (act g.play g.action g.target) (rule (act g.play g.action g.target))

  pub exact_further : exact G d T rule (suc n) ≡ going further
  unfolding exact play_by turn_by advance arrive
  exact_further = ap (turn_by G rule (exact_choice G d T)) g.is ∙ rw (g.has_action, advance) (rw g.permitted)

  pub worked_further : (actions : List ℕ) → worked G rule actions ≡ going g.play → worked G rule (g.action ∷ actions) ≡ going further
  unfolding worked turn_by advance arrive
  worked_further actions e = ap (turn_by G rule (λ π. some g.action)) e ∙ rw g.permitted
