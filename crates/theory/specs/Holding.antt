-- W-207's gates: "they do command 0 instead, if it is permitted there". Assumes nothing.
use Rattle.std.specs.Prelude.{ℕ, Bool, true, false, cond, ltb}
use Rattle.theory.specs.Game.{Target, absent, to, Game}

-- a target, or where it is absent the other one
unfoldable pub or_else : Target → Target → Target
or_else absent t = t
or_else (to q) t = to q

-- the targets of a game with so many actions, where its gates hold (true) or don't: "every own position with a move for command 0 uses
-- that target for each missing command"; where action 0 is missing too, nothing is held
unfoldable pub held : Bool → ℕ → (ℕ → ℕ → Target) → ℕ → ℕ → Target
held true actions target p c = or_else (target p c) (cond (ltb c actions) (target p 0) absent)
held false actions target p c = target p c

-- "that completed yard": nothing but targets differs
abbrev pub completed : Bool → Game → Game
completed holding G =
    record {
      positions = G.positions;
      start = G.start;
      actions = G.actions;
      controller = G.controller;
      safe = G.safe;
      target = held holding G.actions G.target;
      moves = G.moves;
    }
