-- What a packet leaves in the state's bytes. Assumes nothing.
use Prim.Native.Nat.{ℕ}
use mathlib.Core.Path.{◌≡◌, refl}
use mathlib.Core.List.{List}
use Rattle.controller.specs.Accuracy.{Response, accepts, acts, refuses, refuses_at}
use Rattle.controller.specs.declared.calls.Observation.{Observation}
use Rattle.packet.specs.Packet.{bytes_by, packet_reply}

-- nothing is written where the packet is refused, or the bytes that it leaves are those before it
by_twice : (r : Response) (c b : List ℕ) → bytes_by r (bytes_by r c b) b ≡ bytes_by r c b
by_twice accepts c b = refl
by_twice (acts a) c b = refl
by_twice (refuses n) c b = refl
by_twice (refuses_at n k) c b = refl

pub bytes_twice : (t b : List ℕ) (os : List Observation) → bytes_by (packet_reply t b os).response (packet_reply t b os).bytes b ≡ (packet_reply t b os).bytes
bytes_twice t b os = by_twice (packet_reply t b os).response _ b
