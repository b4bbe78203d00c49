-- A packet's records, walked on the bytes of a state. b is the bytes so far, before those that a refused packet leaves. Assumes nothing.
use Rattle.std.specs.Prelude.{ℕ, suc, ◌*◌, List, [], ◌∷◌}
use Rattle.theory.specs.Answer.{Answer, refused, accepted, check, on_accepted}
use Rattle.state.specs.State.{slot_at, agrees}
use Rattle.state.specs.StateBytes.{decode_state, slot_filled}
use Rattle.controller.specs.code.Ages.{age_with}
use Rattle.controller.specs.Accuracy.{accepts, refuses_at}
use Rattle.controller.specs.declared.calls.Observation.{Observation}
use Rattle.packet.specs.Packet.{PacketReply}

-- a record on the bytes of a state that is one, under a highest position and a delay: refused, or the bytes with its slot filled
unfoldable pub hear_in : ℕ → ℕ → List ℕ → Observation → Answer (List ℕ)
hear_in highest d b o =
    on_accepted (age_with highest d (2 * (decode_state b).turn) o.index o.position)
    (λ age. check (agrees (slot_at (decode_state b) age) o.position) 19 (accepted (slot_filled b age o.position)))

-- a refusal ends the walk, else the rest goes on
unfoldable pub walk_on : List ℕ → ℕ → Answer (List ℕ) → (List ℕ → PacketReply) → PacketReply
walk_on before place (refused n) rest = record { response = refuses_at n place; bytes = before }
walk_on before place (accepted b) rest = rest b

-- all of these, the first being at this place
unfoldable pub walked_by : ℕ → ℕ → List ℕ → List ℕ → ℕ → List Observation → PacketReply
walked_by highest d before b place [] = record { response = accepts; bytes = b }
walked_by highest d before b place (o ∷ later) =
    walk_on before place (hear_in highest d b o) (λ b. walked_by highest d before b (suc place) later)
