-- Demand 3, "The cabin's accuracy": one claim about a whole list of calls. G is the game, t the bytes of the table sheet, rule the
-- yard's rule. The exact play and the worked play are theory's. Assumes nothing.
use Rattle.std.specs.Prelude.{ℕ, suc, ◌+◌, ◌-◌, ◌*◌, ◌≤◌, ◌≡◌, Bool, true, not, cond, List, [], ◌∷◌, eqb, leb, ltb, length}
use Rattle.theory.specs.Fold.{both, any_of}
use Rattle.theory.specs.Answer.{Answer, refused, accepted}
use Rattle.theory.specs.Game.{Game}
use Rattle.theory.specs.Play.{last, index, back, actions_of, Rule}
use Rattle.theory.specs.Exact.{MaybeAction, none, some, Run, going, play_of, exact_choice, exact, worked}
use Rattle.table.specs.TableSheet.{TableSheet, decode}
use Rattle.state.specs.State.{last_turn, opened}
use Rattle.controller.specs.Controller.{open_answer, observe_answer, act_answer}
use Rattle.controller.specs.Controller.{most_observations, Heard, heard_all, refused_at, observe_each, packet_answer}
use Rattle.state.specs.declared.state.State.{State}
use Rattle.controller.specs.declared.calls.Observation.{Observation}
use Rattle.controller.specs.declared.calls.TurnTaken.{TurnTaken}

-- "Its calls are hearing and giving": observe a position at an index, and act; "a packet being one call of its lists"
pub data Call : Type 0 where
  observe : ℕ → ℕ → Call
  observe_all : List Observation → Call
  act : Call

-- refuses_at is a refusal of one record of a packet: the number, and the record's place
pub data Response : Type 0 where
  accepts : Response
  acts : ℕ → Response
  refuses : ℕ → Response
  refuses_at : ℕ → ℕ → Response

pub record Reply : Type 0 where
  pub response : Response
  pub state : State

-- "after a refusal" the state is "the one that call was given"
abbrev pub after_observing : State → Answer State → Reply
after_observing s (refused n) = record { response = refuses n; state = s }
after_observing s (accepted next) = record { response = accepts; state = next }

abbrev pub after_acting : State → Answer TurnTaken → Reply
after_acting s (refused n) = record { response = refuses n; state = s }
after_acting s (accepted g) = record { response = acts g.action; state = g.state }

-- "accepts it exactly if hearing them singly, first to last, would accept each; the state is then the same as after those. Otherwise
-- nothing is heard"
abbrev pub after_each : State → Heard → Reply
after_each s (heard_all next) = record { response = accepts; state = next }
after_each s (refused_at n place) = record { response = refuses_at n place; state = s }

abbrev pub after_packet : State → List Observation → Answer TableSheet → Reply
after_packet s os (refused n) = record { response = refuses n; state = s }
after_packet s os (accepted x) = after_each s (observe_each x s 0 os)

-- what the public operations answer and leave, from the sheet's bytes and the state
abbrev pub reply : List ℕ → State → Call → Reply
reply t s (observe k p) = after_observing s (observe_answer t s k p)
reply t s (observe_all os) = after_packet s os (packet_answer t s (length os))
reply t s act = after_acting s (act_answer t s)

-- after some calls: the state, the actions and the indices observed, newest first
pub record Progress : Type 0 where
  pub state : State
  pub actions : List ℕ
  pub indices : List ℕ

-- "the list starts from the state" that opening gives
abbrev pub begun : Progress
begun = record { state = opened; actions = []; indices = [] }

-- "i is the number of commands given so far"
abbrev pub turn_of : Progress → ℕ
turn_of s = length s.actions

abbrev pub actions_by : Response → List ℕ → List ℕ
actions_by accepts actions = actions
actions_by (acts a) actions = a ∷ actions
actions_by (refuses n) actions = actions
actions_by (refuses_at n place) actions = actions

-- the indices of these, before the others
unfoldable pub indices_in : List Observation → List ℕ → List ℕ
indices_in [] indices = indices
indices_in (o ∷ later) indices = indices_in later (o.index ∷ indices)

-- the indices that a call names, before the others
abbrev pub named : Call → List ℕ → List ℕ
named (observe k p) indices = k ∷ indices
named (observe_all os) indices = indices_in os indices
named act indices = indices

-- "An index is heard once a hearing that named it was accepted"
abbrev pub indices_by : Call → Response → List ℕ → List ℕ
indices_by c accepts indices = named c indices
indices_by c (acts a) indices = indices
indices_by c (refuses n) indices = indices
indices_by c (refuses_at n place) indices = indices

abbrev pub after : Progress → Call → Reply → Progress
after s c r =
    record { state = r.state; actions = actions_by r.response s.actions; indices = indices_by c r.response s.indices }

-- each call "gets that same sheet and the state the call before it left"
unfoldable pub call_step : List ℕ → Progress → Call → Progress
call_step t s c = after s c (reply t s.state c)

unfoldable pub run_calls : List ℕ → Progress → List Call → Progress
run_calls t s [] = s
run_calls t s (c ∷ later) = run_calls t (call_step t s c) later

-- the play of a run has position p at index k
abbrev pub HasAt : Game → Run → ℕ → ℕ → Type 0
HasAt G run k p = (k ≤ index (play_of run)) × (last G (back (index (play_of run) - k) (play_of run)) ≡ p)

-- "A report is true if the worked play has its position at its index"; asked of "every report of an index from 2i - d to 2i"
abbrev pub TrueReport : Game → ℕ → Rule → List ℕ → ℕ → ℕ → Type 0
TrueReport G d rule actions k p =
    2 * length actions ≤ k + d → k ≤ 2 * length actions → HasAt G (worked G rule actions) k p

-- a packet's "reports are true where single ones must be": all of them, also behind a refused one
unfoldable pub TrueReports : Game → ℕ → Rule → List ℕ → List Observation → Type 0
TrueReports G d rule actions [] = Unit {0}
TrueReports G d rule actions (o ∷ later) =
    TrueReport G d rule actions o.index o.position × TrueReports G d rule actions later

abbrev pub IsTrueCall : Game → List ℕ → Rule → Progress → Call → Type 0
IsTrueCall G t rule s (observe k p) = TrueReport G (decode t).delay rule s.actions k p
IsTrueCall G t rule s (observe_all os) = TrueReports G (decode t).delay rule s.actions os
IsTrueCall G t rule s act = Unit {0}

unfoldable pub Truthful : Game → List ℕ → Rule → Progress → List Call → Type 0
Truthful G t rule s [] = Unit {0}
Truthful G t rule s (c ∷ later) = IsTrueCall G t rule s c × Truthful G t rule (call_step t s c) later

abbrev pub is_observed : Progress → ℕ → Bool
is_observed s k = any_of (λ j. eqb j k) s.indices

-- the exact play of a table sheet, and its action of turn i
abbrev pub exact_play : Game → TableSheet → Rule → ℕ → Run
exact_play G x rule n = exact G x.delay x.table rule n

abbrev pub exact_action : Game → TableSheet → Rule → ℕ → MaybeAction
exact_action G x rule i = exact_choice G x.delay x.table (play_of (exact_play G x rule i))

-- a missing action would be refused; `endless` below says that the exact play has none
abbrev pub to_act : MaybeAction → Response
to_act none = refuses 14
to_act (some a) = acts a

-- at turn i "hearing answers 16 if the position is over the highest, else 17 below index 2i - d, 18 over 2i, else accepts": the refusal by
-- its number, or the rest
abbrev pub right_report : TableSheet → ℕ → ℕ → ℕ → (ℕ → Response) → Response → Response
right_report x i k p refusal rest =
    cond (ltb x.highest p) (refusal 16)
    (cond (ltb (k + x.delay) (2 * i)) (refusal 17) (cond (ltb (2 * i) k) (refusal 18) rest))

-- a packet's records from a place on, each "answered by this rule"
unfoldable pub right_reports : TableSheet → ℕ → ℕ → List Observation → Response
right_reports x i place [] = accepts
right_reports x i place (o ∷ later) =
    right_report x i o.index o.position (λ n. refuses_at n place) (right_reports x i (suc place) later)

-- "At each call" hearing answers as above, a packet 22 before any record.
-- "Giving answers 15 if i is 1,000,000, else 13 exactly if 2i is at least d and index 2i - d is unheard, else the exact play's
-- command of turn i"
abbrev pub right_answer : Game → TableSheet → Rule → Progress → Call → Response
right_answer G x rule s (observe k p) = right_report x (turn_of s) k p refuses accepts
right_answer G x rule s (observe_all os) =
    cond (ltb most_observations (length os)) (refuses 22) (right_reports x (turn_of s) 0 os)
right_answer G x rule s act =
    cond (eqb (turn_of s) last_turn) (refuses 15)
    (cond (both (leb x.delay (2 * turn_of s)) (not (is_observed s (2 * turn_of s - x.delay)))) (refuses 13)
    (to_act (exact_action G x rule (turn_of s))))

-- every call of the list has the right answer
unfoldable pub Answered : Game → List ℕ → Rule → Progress → List Call → Type 0
Answered G t rule s [] = Unit {0}
Answered G t rule s (c ∷ later) =
    ((reply t s.state c).response ≡ right_answer G (decode t) rule s c) × Answered G t rule (call_step t s c) later

-- the play "does not end and has only safe positions", and has an action next
pub record GoesSafely (G : Game) (x : TableSheet) (rule : Rule) (n : ℕ) : Type 0 where
  pub goes : exact_play G x rule n ≡ going (play_of (exact_play G x rule n))
  pub safely : (k : ℕ) → G.safe (last G (back k (play_of (exact_play G x rule n)))) ≡ true
  pub has_action : (c : ℕ) × (exact_action G x rule n ≡ some c)

-- the claim, for a list of calls
pub record Accurate (G : Game) (t : List ℕ) (rule : Rule) (calls : List Call) : Type 0 where
  -- "Opening accepts the made sheet"
  pub opens : open_answer t ≡ accepted opened
  -- "Over its first 1,000,000 turns the exact play does not end and has only safe positions"
  pub endless : (n : ℕ) → n ≤ last_turn → GoesSafely G (decode t) rule n
  -- "After the list the commands given, in order, are those of its first i turns"
  pub acted : (run_calls t begun calls).actions ≡ actions_of (play_of (exact_play G (decode t) rule (turn_of (run_calls t begun calls))))
  -- "and the worked play is the exact play up to index 2i"
  pub played : worked G rule (run_calls t begun calls).actions ≡ exact_play G (decode t) rule (turn_of (run_calls t begun calls))
  pub answered : Answered G t rule begun calls
