-- W-204 over bytes, as the customer reads it. t is the table sheet, b a state's bytes, os a packet's records. Assumes nothing.
use Rattle.std.specs.Prelude.{ℕ, ◌≡◌, List, [], ◌∷◌, ◌++◌, length}
use Rattle.theory.specs.Answer.{refused, accepted}
use Rattle.state.specs.StateBytes.{decode_state, index_filled}
use Rattle.state.specs.declared.state.State.{State}
use Rattle.controller.specs.Controller.{observe_answer}
use Rattle.controller.specs.declared.calls.Observation.{Observation}

-- "hearing them singly, first to last, would accept each": each on the bytes that the one before it left, and c those that the last
-- one leaves
unfoldable pub Singly : List ℕ → List ℕ → List Observation → List ℕ → Type 0
Singly t b [] c = b ≡ c
Singly t b (o ∷ later) c =
    ((s : State) × (observe_answer t (decode_state b) o.index o.position ≡ accepted s))
    × Singly t (index_filled b o.index o.position) later c

-- "the first refusal and .. its place in the list, from 0": the records before place k are accepted singly, and the one there is refused
-- with n
pub record FirstRefused (t b : List ℕ) (os : List Observation) (n k : ℕ) : Type 0 where
  pub before : List Observation
  pub here : Observation
  pub later : List Observation
  pub listed : before ++ (here ∷ later) ≡ os
  pub place : length before ≡ k
  pub left : List ℕ
  pub heard : Singly t b before left
  pub refusal : observe_answer t (decode_state left) here.index here.position ≡ refused n
