-- Demand 3, "The cabin's accuracy", from the bytes of a game sheet and a table sheet alone: "the cabin's accuracy speaks of any table with a
-- yes" (document 02, W-202). Assumes nothing.
use Prim.Native.Nat.{ℕ}
use mathlib.Core.Path.{◌≡◌}
use mathlib.Core.List.{List}
use Rattle.theory.specs.Answer.{accepted}
use Rattle.theory.specs.Play.{Rule, IsRule}
use Rattle.theory.specs.Judging.{sound}
use Rattle.sheet.specs.SheetGame.{game_of}
use Rattle.reader.proofs.Legality.{legal_game}
use Rattle.judge.specs.Judging.{judge_answer}
use Rattle.judge.proofs.Accepted.{ruled}
use Rattle.maker.specs.Making.{won, make_answer}
use Rattle.controller.specs.Accuracy.{Call, begun, Truthful, Accurate}
use Rattle.controller.proofs.Accuracy.{accurate}
use Rattle.claims.proofs.Judged.{yes_sound, made_yes}

-- the delivered claim: for every game sheet s and every table sheet t that is judged sound, every rule and every list of calls with true
-- reports
pub accuracy : (s t : List ℕ) → judge_answer s t ≡ accepted sound → (rule : Rule) → IsRule (game_of s) rule
    → (calls : List Call) → Truthful (game_of s) t rule begun calls → Accurate (game_of s) t rule calls
accuracy s t e rule is calls h =
    let said = (ruled s t sound e).sheets in
    accurate (game_of s) t rule (legal_game s said.layout said.reads) said.readable (yes_sound s t e) is calls h

-- so it holds of the sheets that we make
pub made_accuracy : (s : List ℕ) (masks ranks output : ℕ) (t : List ℕ) → make_answer s masks ranks output ≡ accepted (won t)
    → (rule : Rule) → IsRule (game_of s) rule
    → (calls : List Call) → Truthful (game_of s) t rule begun calls → Accurate (game_of s) t rule calls
made_accuracy s masks ranks output t made = accuracy s t (made_yes s masks ranks output t made)
