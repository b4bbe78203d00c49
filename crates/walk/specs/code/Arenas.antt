-- The same over the code's arena and marks (src/arena.rt), as contracts say it. Assumes nothing.
use Rattle.std.specs.Prelude.{ℕ, ◌+◌, ◌*◌, Bool, length, Option}
use Rattle.theory.specs.Fold.{last_with}
use Rattle.theory.specs.Game.{Target}
use Rattle.theory.specs.Rounds as theory
use Rattle.sheet.specs.code.Arrays.{to_at}
use Rattle.walk.specs.declared.arena.Arena.{Arena}
use Rattle.walk.specs.declared.arena.Fallen.{Fallen}
use Rattle.walk.specs.declared.walk.Choice.{Choice}
use Rattle.walk.specs.code.Levels.{arena_of}
use Rattle.walk.specs.code.Nodes.{Sized}
use Rattle.walk.specs.code.Walks.{fallen_by, choice_at, outcome_at, spoils_on, spoilt_in, all_spoilt_in, spoilt_answer, all_spoilt_answer}

-- the arena of its arrays
abbrev pub arena_in : Arena → theory.Arena
arena_in a = arena_of a.positions.now a.grid.now a.moves.now a.firsts.now a.level

-- a node whose mark is 1 to last has fallen
abbrev pub has_fallen : Fallen → ℕ → Bool
has_fallen f = fallen_by f.last f.marks.now

-- its level is small enough to walk
abbrev pub IsSized : Arena → Type 0
IsSized a = Sized (length a.positions.now) a.level

-- what choosing action c at position q with the pending word w gives
abbrev pub choice_for : Arena → ℕ → ℕ → ℕ → Option Choice
choice_for a q w c = choice_at a.positions.now a.grid.now a.firsts.now a.level q (w * a.level.actions + c)

-- the outcome of the move on a line
abbrev pub outcome_on : Arena → Choice → ℕ → Target
outcome_on a x line = outcome_at a.positions.now a.grid.now a.level x (to_at a.moves.now line)

-- the last of a choice's lines that spoils it, of those below a line
abbrev pub last_below : Arena → Fallen → Choice → ℕ → Option ℕ
last_below a f x = last_with (spoils_on a.positions.now a.grid.now a.moves.now a.level (has_fallen f) x) x.first

-- action c is spoilt at node k, which exists; so is every action
abbrev pub spoilt_at : Arena → Fallen → ℕ → ℕ → Bool
spoilt_at a f = spoilt_in a.positions.now a.grid.now a.moves.now a.firsts.now a.level f.marks.now f.last

abbrev pub all_spoilt_at : Arena → Fallen → ℕ → Bool
all_spoilt_at a f = all_spoilt_in a.positions.now a.grid.now a.moves.now a.firsts.now a.level f.marks.now f.last

-- the same for any numbers
abbrev pub spoilt : Arena → Fallen → ℕ → ℕ → Bool
spoilt a f = spoilt_answer a.positions.now a.grid.now a.moves.now a.firsts.now a.level f.marks.now f.last

abbrev pub all_spoilt : Arena → Fallen → ℕ → Bool
all_spoilt a f = all_spoilt_answer a.positions.now a.grid.now a.moves.now a.firsts.now a.level f.marks.now f.last
