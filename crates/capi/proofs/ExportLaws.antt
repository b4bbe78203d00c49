-- The place that `lq_masks` leaves, and the index for which `lq_observe` finds a slot. Assumes nothing.
use Prim.Native.Nat.{ℕ, ◌*◌, ◌≤◌}
use mathlib.Core.Path.{◌≡◌, sym}
use mathlib.Core.List.{List}
use Rattle.theory.specs.Answer.{accepted}
use Rattle.sheet.specs.Limits.{width}
use Rattle.sheet.specs.Form.{placed_at, part_at, body_of}
use Rattle.table.specs.TableSheet.{TableSheet, table_answer, masks_in, masks_of}
use Rattle.state.specs.declared.state.State.{State}
use Rattle.controller.specs.Controller.{observe_answer}
use Rattle.controller.proofs.AnswerLaws.{observe_accepted}

-- where the sheet is read, the place that is left is that of the masks
pub masks_placed : (s : List ℕ) (x : TableSheet) → table_answer s ≡ accepted x → part_at s (placed_at width s 2) ≡ masks_of s
unfolding masks_of masks_in body_of
masks_placed s x e = rw e

-- an accepted observation's index is not over the newest
pub index_within : (t : List ℕ) (s : State) (k p : ℕ) (n : State) → accepted n ≡ observe_answer t s k p → k ≤ 2 * s.turn
index_within t s k p n e = (observe_accepted t s k p n (sym e)).2.not_new
