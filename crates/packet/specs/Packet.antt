-- Document 02's W-204 over bytes: what hearing a packet answers, and the state's bytes after it. t is the table sheet, b the state's bytes,
-- os the packet's records. Assumes nothing.
use Rattle.std.specs.Prelude.{ℕ, List, [], ◌∷◌, Option, None, Some, Result, Ok, Err}
use Rattle.sheet.specs.Refusals.{number_of}
use Rattle.state.specs.StateBytes.{decode_state, index_filled}
use Rattle.controller.specs.Accuracy.{Response, accepts, acts, refuses, refuses_at, observe_all, reply}
use Rattle.controller.specs.declared.calls.Observation.{Observation}
use Rattle.packet.specs.declared.hearing.PacketRefusal.{PacketRefusal}

-- the bytes once these were observed singly, first to last
unfoldable pub all_filled : List ℕ → List Observation → List ℕ
all_filled b [] = b
all_filled b (o ∷ later) = all_filled (index_filled b o.index o.position) later

-- "the state is then the same as after those", byte for byte. "Otherwise nothing is heard"
abbrev pub bytes_by : Response → List ℕ → List ℕ → List ℕ
bytes_by accepts filled before = filled
bytes_by (acts a) filled before = before
bytes_by (refuses n) filled before = before
bytes_by (refuses_at n place) filled before = before

pub record PacketReply : Type 0 where
  pub response : Response
  pub bytes : List ℕ

abbrev pub packet_reply : List ℕ → List ℕ → List Observation → PacketReply
packet_reply t b os =
    record {
      response = (reply t (decode_state b) (observe_all os)).response;
      bytes = bytes_by (reply t (decode_state b) (observe_all os)).response (all_filled b os) b;
    }

-- document 02's number and place for every case of the code's answer, b being the bytes before the packet
abbrev pub refused_at_place : Option ℕ → ℕ → Response
refused_at_place None n = refuses n
refused_at_place (Some place) n = refuses_at n place

abbrev pub refused_by : PacketRefusal → Response
refused_by r = refused_at_place r.place (number_of r.refusal)

abbrev pub heard_means : List ℕ → Result (List ℕ) PacketRefusal → PacketReply
heard_means b (Ok after) = record { response = accepts; bytes = after }
heard_means b (Err r) = record { response = refused_by r; bytes = b }
