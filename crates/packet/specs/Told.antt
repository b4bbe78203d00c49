-- A packet's answer in numbers, as C callers have it. Assumes nothing.
use Rattle.controller.specs.Accuracy.{Response, accepts, acts, refuses, refuses_at}
use Rattle.packet.specs.declared.answer.PacketAnswer.{PacketAnswer}

-- the refusal's number, 0 where there is none; "for 16 to 19 only, its place in the list", else 0
abbrev pub told : Response → PacketAnswer
told accepts = record { refusal = 0; place = 0 }
told (acts a) = record { refusal = 0; place = 0 }
told (refuses n) = record { refusal = n; place = 0 }
told (refuses_at n place) = record { refusal = n; place = place }
