-- The exact play and the worked play of document 01, "The cabin's accuracy". Assumes nothing.
use Rattle.std.specs.Prelude.{ℕ, zero, suc, ◌+◌, ◌*◌, ◌/◌, ◌^◌, not, cond, List, [], ◌∷◌, eqb, ltb, length, get_or}
use Rattle.theory.specs.Fold.{first_not}
use Rattle.theory.specs.Words.{digit}
use Rattle.theory.specs.Game.{Target, absent, to, Game}
use Rattle.theory.specs.Play.{Play, origin, act, move, last, turns, back, last_actions, Rule}
use Rattle.theory.specs.Strategy.{initial_length}
use Rattle.theory.specs.Table.{Table, flagged, bit}

pub data MaybeAction : Type 0 where
  none : MaybeAction
  some : ℕ → MaybeAction

-- "the least word flagged in W"
unfoldable pub least_flagged : Table → ℕ
least_flagged T = first_not (λ v. not (flagged T v)) (length T.flags)

-- "the lowest in the mask", of A actions; missing where the mask is 0
unfoldable pub lowest_in : ℕ → ℕ → MaybeAction
lowest_in A m = cond (eqb m 0) none (some (first_not (λ c. not (bit m c)) A))

-- "the command" of turn i, from the position p at index 2i - d and the word w of the last L actions
unfoldable pub action_at : ℕ → ℕ → Table → ℕ → ℕ → ℕ → MaybeAction
action_at A d T i p w =
    cond (ltb (2 * i) d) (some (digit A (initial_length d) (least_flagged T) i)) (lowest_in A (get_or T.masks (p * A ^ (d / 2) + w) 0))

-- "Either play ends at a command that is missing or not permitted"
pub data Run : Type 0 where
  going : Play → Run
  ended : Play → Run

abbrev pub play_of : Run → Play
play_of (going π) = π
play_of (ended π) = π

-- an action adds its target, then the rule's move
unfoldable pub arrive : Rule → Play → ℕ → Target → Run
arrive rule π c absent = ended π
arrive rule π c (to q) = going (move (act π c q) (rule (act π c q)))

unfoldable pub advance : Game → Rule → Play → MaybeAction → Run
advance G rule π none = ended π
advance G rule π (some c) = arrive rule π c (G.target (last G π) c)

unfoldable pub turn_by : Game → Rule → (Play → MaybeAction) → Run → Run
turn_by G rule choose (ended π) = ended π
turn_by G rule choose (going π) = advance G rule π (choose π)

-- n turns by an action for each play
unfoldable pub play_by : Game → Rule → (Play → MaybeAction) → ℕ → Run
play_by G rule choose zero = going origin
play_by G rule choose (suc n) = turn_by G rule choose (play_by G rule choose n)

-- the exact play's action at the end of π
unfoldable pub exact_choice : Game → ℕ → Table → Play → MaybeAction
exact_choice G d T π = action_at G.actions d T (turns π) (last G (back d π)) (last_actions G.actions π (d / 2))

-- the exact play after n turns: made from the game, the table and the rule alone
unfoldable pub exact : Game → ℕ → Table → Rule → ℕ → Run
exact G d T rule n = play_by G rule (exact_choice G d T) n

-- the worked play, from the rule and the actions given, newest first
unfoldable pub worked : Game → Rule → List ℕ → Run
worked G rule [] = going origin
worked G rule (c ∷ earlier) = turn_by G rule (λ π. some c) (worked G rule earlier)
