-- Demand 3, "The cabin's accuracy", over any readable sheet whose table is sound for the game. Assumes nothing.
use Prim.Native.Nat.{ℕ}
use mathlib.Core.Path.{◌≡◌, sym, ◌∙◌, ap, subst}
use mathlib.Core.Bool.{true}
use mathlib.Core.List.{List, [], ◌∷◌}
use lib.ListN.{length}
use Rattle.theory.specs.Answer.{accepted, on_accepted}
use Rattle.theory.specs.Game.{Game, Legal}
use Rattle.theory.specs.Play.{actions_of, last, back, Rule, IsRule}
use Rattle.theory.specs.Table.{flagged}
use Rattle.theory.specs.Exact.{Run, going, play_of, exact_choice}
use Rattle.theory.proofs.Fold.{any_some}
use Rattle.theory.proofs.Answer.{accepted_same, check_accepted, accepted_on}
use Rattle.table.specs.TableSheet.{TableSheet, decode, shape_answer, some_flagged, table_answer}
use Rattle.state.specs.State.{opened}
use Rattle.controller.specs.Controller.{open_answer, observe_answer, packet_answer, act_answer}
use Rattle.controller.specs.Accuracy.{Call, observe, observe_all, act, reply, Progress, begun, turn_of, call_step, run_calls, IsTrueCall, Truthful, Answered, GoesSafely, Accurate}
use Rattle.controller.specs.Sound.{Sound}
use Rattle.controller.proofs.Progress.{goes, Follows, begins, Right, observe_right, observe_all_right, act_right}

-- a readable sheet has a flagged word
pub some_word : (t : List ℕ) (x : TableSheet) → table_answer t ≡ accepted x → (v : ℕ) × (flagged x.table v ≡ true)
unfolding table_answer some_flagged
some_word t x e =
    let a = accepted_on (shape_answer t) _ e in
    let b = check_accepted _ 12 _ a.2 in
    let y = accepted_same b.1 in
    let g = any_some (flagged a.0.table) (length a.0.table.flags) b.0 in
    (g.0, subst (λ (x : TableSheet). flagged x.table g.0 ≡ true) y g.2)

module _ (G : Game) (t : List ℕ) (rule : Rule) (legal : Legal G) (reads : table_answer t ≡ accepted (decode t)) (sound : Sound G (decode t)) (is : IsRule G rule) where
  abbrev word : ℕ
  word = (some_word t (decode t) reads).0

  abbrev word_flagged : flagged (decode t).table word ≡ true
  word_flagged = (some_word t (decode t) reads).1

  abbrev Follow : Progress → Type 0
  Follow = Follows G legal (decode t) sound word word_flagged rule is

  -- one call over the bytes
  step_right : (s : Progress) → Follow s → (c : Call) → IsTrueCall G t rule s c
      → Right G legal (decode t) sound word word_flagged rule is s c (reply t s.state c)
  unfolding observe_answer packet_answer act_answer on_accepted
  step_right s f (observe k p) h = rw reads (observe_right G legal (decode t) sound word word_flagged rule is s f k p h)
  step_right s f (observe_all os) h = rw reads (observe_all_right G legal (decode t) sound word word_flagged rule is s f os h)
  step_right s f act h = rw reads (act_right G legal (decode t) sound word word_flagged rule is s f)

  -- after any list of calls, from any progress that follows the exact play
  all_right : (s : Progress) → Follow s → (calls : List Call) → Truthful G t rule s calls
      → Follow (run_calls t s calls) × Answered G t rule s calls
  unfolding Truthful run_calls Answered call_step
  all_right s f [] h = (f, tt)
  all_right s f (c ∷ later) h =
      let r = step_right s f c h.0 in
      let l = all_right (call_step t s c) r.1 later h.1 in
      (l.0, (r.0, l.1))

  opens_right : open_answer t ≡ accepted opened
  unfolding open_answer on_accepted
  opens_right = rw reads

  pub goes_safely : (n : ℕ) → GoesSafely G (decode t) rule n
  goes_safely n =
      let g = goes G legal (decode t) sound word word_flagged rule is n in
      record {
        goes = g.is ∙ ap (λ (r : Run). going (play_of r)) (sym g.is);
        safely = λ k. subst (λ (r : Run). G.safe (last G (back k (play_of r))) ≡ true) (sym g.is) (g.safe k);
        has_action = (g.action, ap (λ (r : Run). exact_choice G (decode t).delay (decode t).table (play_of r)) g.is ∙ g.has_action);
      }

  pub accurate : (calls : List Call) → Truthful G t rule begun calls → Accurate G t rule calls
  accurate calls h =
      let r = all_right begun (begins G legal (decode t) sound word word_flagged rule is) calls h in
      let f = r.0 in
      let n = turn_of (run_calls t begun calls) in
      let e = (goes G legal (decode t) sound word word_flagged rule is n).is in
      record {
        opens = opens_right;
        endless = λ n b. goes_safely n;
        acted = f.acts ∙ ap (λ (r : Run). actions_of (play_of r)) (sym e);
        played = f.works ∙ sym e;
        answered = r.1;
      }
