-- Where the search upward stops, and what filling both buffers leaves. Assumes nothing.
use Rattle.std.specs.Prelude.{ℕ, ◌≤◌, ◌≡◌, Bool, true, false, List, length, take, drop}
use Rattle.theory.specs.Buffer.{over}
use Rattle.theory.specs.Game.{Game, Legal}
use Rattle.theory.specs.Rounds.{Arena, masks, final_ranks}
use Rattle.theory.specs.Delay.{Verdict, wins, losing, words, arena, answer}
use Rattle.sheet.specs.Size.{nodes_of}
use Rattle.sheet.specs.code.Arrays.{view_of}
use Rattle.walk.specs.declared.level.Level.{Level}
use Rattle.walk.specs.code.Levels.{Room}
use Rattle.rounds.specs.code.Falling.{AtMost}
use Rattle.solver.specs.code.Working.{Lines}
use Rattle.solver.specs.Solving.{solved_delay}
use Rattle.solver.specs.declared.delays.Stop.{Stop}

-- the verdict of a search that stopped at delay m
unfoldable pub verdict_by : Bool → ℕ → Verdict
verdict_by true m = wins
verdict_by false m = losing m

-- where the search upward stopped, and the ranks that it left
pub record Stopped (G : Game) (d : ℕ) (before after : List ℕ) (r : Stop) : Type 0 where
  pub verdict : verdict_by r.wins r.delay ≡ answer G d
  pub delay : r.delay ≡ solved_delay d (answer G d)
  pub ranks : after ≡ over (final_ranks (arena G r.delay)) before
  pub rounds : AtMost r.rounds (final_ranks (arena G r.delay))

-- what solving a level leaves: the masks too where words are pending
pub record Leveled (E : Arena) (l : Level) (after left : List ℕ) (n : ℕ) : Type 0 where
  pub final : after ≡ final_ranks E
  pub most : AtMost n after
  pub masks : (l.words ≡ 1 → ⊥) → left ≡ masks E

-- the masks where the search stopped: in place where words are pending, and nothing beyond them is touched
pub record MasksStopped (G : Game) (d : ℕ) (before after : List ℕ) : Type 0 where
  pub size : length after ≡ length before
  pub beyond : drop (arena G d).nodes after ≡ drop (arena G d).nodes before
  pub made : (words G d ≡ 1 → ⊥) → take (arena G d).nodes after ≡ masks (arena G d)

-- the arrays hold a legal game whose numbers have room, and so do the buffers
pub record Fillable (p : List ℕ) (g : List (List ℕ)) (u f : List ℕ) (start actions delay : ℕ) (masks ranks : List ℕ) : Type 0 where
  pub room : Room (length p) actions delay
  pub masks_room : nodes_of (length p) actions delay ≤ length masks
  pub ranks_room : nodes_of (length p) actions delay ≤ length ranks
  pub legal : Legal (view_of p g u f start actions)
  pub moves : Lines (view_of p g u f start actions) u

-- the answer, and both buffers filled for the delay where the search stopped
pub record Filled (G : Game) (d : ℕ) (masks_before ranks_before masks_after ranks_after : List ℕ) (r : Stop) : Type 0 where
  pub stopped : Stopped G d ranks_before ranks_after r
  pub masks : masks_after ≡ over (masks (arena G r.delay)) masks_before
