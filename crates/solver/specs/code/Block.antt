-- Nodes at which every action is spoilt whatever falls. Assumes nothing.
use Rattle.std.specs.Prelude.{ℕ, ◌*◌, Bool, true, false, not, cond}
use Rattle.theory.specs.Fold.{both}
use Rattle.theory.specs.Game.{Target, absent, to}
use Rattle.theory.specs.Rounds.{Arena, spoilt_by}
use Rattle.solver.specs.code.Work.{Work, steps_to, spoil_row_to}

-- of a safe node of the right side: an outcome of action 0 is absent before anything has fallen. Other actions have the same
-- oldest action, so it is absent for them too
unfoldable pub blocked_at : Arena → ℕ → Bool
blocked_at E k = both (E.right k) (both (E.safe k) (spoilt_by E (λ j. false) k 0))

-- even delays: the oldest action has this target
unfoldable pub no_way : (ℕ → Bool) → Target → Bool
no_way safe absent = true
no_way safe (to t) = not (safe t)

-- a row of younger nodes falls in round 2 if it is blocked
unfoldable pub block_to : Arena → ℕ → Work → ℕ → Work
block_to E younger w b = cond (blocked_at E (b * younger)) (spoil_row_to 1 w (b * younger) younger) w

-- so many rows, from row b on
abbrev pub blocks_to : Arena → ℕ → Work → ℕ → ℕ → Work
blocks_to E younger = steps_to (block_to E younger)
