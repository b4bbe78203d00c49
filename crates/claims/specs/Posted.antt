-- W-205 over bytes, as the customer reads it. s is the yard sheet, ps the notice. Assumes nothing.
use Rattle.std.specs.Prelude.{ℕ, ◌≤◌, ◌≡◌, false, List}
use Rattle.theory.specs.Game.{Game}
use Rattle.theory.specs.Play.{last, back, Rule}
use Rattle.theory.specs.Exact.{Run, play_of, worked}
use Rattle.theory.specs.Table.{Table}
use Rattle.theory.specs.Judging.{sound, ruling}
use Rattle.theory.specs.Closing.{listed, close}
use Rattle.sheet.specs.Bodies.{delay_of}
use Rattle.sheet.specs.SheetGame.{game_of}
use Rattle.table.specs.TableSheet.{decode}
use Rattle.state.specs.State.{last_turn}
use Rattle.controller.specs.Accuracy.{Call, begun, run_calls, Truthful, exact_play}

-- the yard "with those positions unsafe"
abbrev pub closed_of : List ℕ → List ℕ → Game
closed_of s ps = close (game_of s) ps

-- "the judging rule of W-202 allows [it] with those positions unsafe"
abbrev pub Allowed : List ℕ → List ℕ → Table → Type 0
Allowed s ps T = ruling (closed_of s ps) (delay_of s) T ≡ sound

-- the position of a run k moves before its last one is not closed
abbrev pub OpenAt : List ℕ → List ℕ → Run → ℕ → Type 0
OpenAt s ps run k = listed ps (last (game_of s) (back k (play_of run))) ≡ false

-- over 1,000,000 turns no play enters a closed position, in the yard itself, by the table sheet t: neither the exact play nor, with true
-- reports, the worked play of any list of calls
pub record NeverCloses (s ps t : List ℕ) (rule : Rule) : Type 0 where
  pub exact : (n : ℕ) → n ≤ last_turn → (k : ℕ) → OpenAt s ps (exact_play (game_of s) (decode t) rule n) k
  pub worked : (calls : List Call) → Truthful (game_of s) t rule begun calls → (k : ℕ)
      → OpenAt s ps (worked (game_of s) rule (run_calls t begun calls).actions) k
