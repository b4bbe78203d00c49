-- Targets of our own, and what holding gates make of them. Assumes nothing.
use Rattle.std.specs.Prelude.{ℕ, Bool, List, [], ◌∷◌}
use Rattle.theory.specs.Fold.{tabulate}
use Rattle.theory.specs.Game.{Target, absent, to}
use Rattle.theory.specs.Holding.{held}
use Rattle.theory.specs.cases.Games.{target_from}

-- "from, command, to": position 0 lacks action 1 of three, position 1 has it alone, position 2 has action 2 alone
unfoldable pub held_lines : List ℕ
held_lines = 0 ∷ 0 ∷ 5 ∷ 0 ∷ 2 ∷ 6 ∷ 1 ∷ 1 ∷ 7 ∷ 2 ∷ 2 ∷ 5 ∷ []

-- their targets for five actions, of which the game has three
unfoldable pub held_rows : Bool → List (List Target)
held_rows holding =
    tabulate (λ p. tabulate (held holding 3 (target_from held_lines) p) 0 5) 0 3

-- with gates that hold, and as they are
unfoldable pub held_answers : List (List Target)
held_answers =
    (to 5 ∷ to 5 ∷ to 6 ∷ absent ∷ absent ∷ [])
    ∷ (absent ∷ to 7 ∷ absent ∷ absent ∷ absent ∷ [])
    ∷ (absent ∷ absent ∷ to 5 ∷ absent ∷ absent ∷ [])
    ∷ []

unfoldable pub plain_answers : List (List Target)
plain_answers =
    (to 5 ∷ absent ∷ to 6 ∷ absent ∷ absent ∷ [])
    ∷ (absent ∷ to 7 ∷ absent ∷ absent ∷ absent ∷ [])
    ∷ (absent ∷ absent ∷ to 5 ∷ absent ∷ absent ∷ [])
    ∷ []
