-- Finite plays: the prefixes of Definition 2's plays, with positions and actions, the newest move outermost ("a play starts at
-- index 0 in the start position"). Assumes nothing.
use Rattle.std.specs.Prelude.{ℕ, zero, suc, ◌+◌, ◌*◌, ◌≡◌, false}
use mathlib.Core.List.{List, [], ◌∷◌, Memᴰ}
use Rattle.theory.specs.Game.{Game, to}

-- act π c q: the action c is played after π and leads to q; move π r: the environment moves to r
pub data Play : Type 0 where
  origin : Play
  act : Play → ℕ → ℕ → Play
  move : Play → ℕ → Play

-- the last position of a play that starts at s
unfoldable pub last_from : ℕ → Play → ℕ
last_from s origin = s
last_from s (act π c q) = q
last_from s (move π r) = r

abbrev pub last : Game → Play → ℕ
last G π = last_from G.start π

-- the number of actions played: at a play's end with i turns and an own position, turn i is next
unfoldable pub turns : Play → ℕ
turns origin = 0
turns (act π c q) = suc (turns π)
turns (move π r) = turns π

-- the index of the last position ("even indices are own, odd ones yard")
unfoldable pub index : Play → ℕ
index origin = 0
index (act π c q) = suc (index π)
index (move π r) = suc (index π)

-- the play without its last n moves, of both sides
unfoldable pub back : ℕ → Play → Play
back zero π = π
back (suc n) origin = origin
back (suc n) (act π c q) = back n π
back (suc n) (move π r) = back n π

-- the actions played, newest first
unfoldable pub actions_of : Play → List ℕ
actions_of origin = []
actions_of (act π c q) = c ∷ actions_of π
actions_of (move π r) = actions_of π

-- the word of the last n actions, or of all where fewer were played
unfoldable pub last_actions : ℕ → Play → ℕ → ℕ
last_actions A origin n = 0
last_actions A (move π r) n = last_actions A π n
last_actions A (act π c q) zero = 0
last_actions A (act π c q) (suc n) = last_actions A π n * A + c

-- Definition 2, finite: every move is one of the game's
pub data IsPlay (G : Game) : Play → Type 0 where
  begun : IsPlay G origin
  acted : {π : Play} (c q : ℕ) → IsPlay G π → G.target (last G π) c ≡ to q → IsPlay G (act π c q)
  moved : {π : Play} (r : ℕ) → IsPlay G π → Memᴰ r (G.moves (last G π)) → IsPlay G (move π r)

-- the yard's rule: it "names, for each play that ends in a yard position, one of the moves from there"
abbrev pub Rule : Type 0
Rule = Play → ℕ

abbrev pub IsRule : Game → Rule → Type 0
IsRule G rule = (π : Play) → IsPlay G π → G.controller (last G π) ≡ false → Memᴰ (rule π) (G.moves (last G π))
