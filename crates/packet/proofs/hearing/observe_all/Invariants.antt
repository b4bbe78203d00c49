-- `observe_all`: the records that are left, walked from the bytes so far, come to what the whole walk comes to. Assumes nothing.
use Rattle.std.proofs.Common.{◌≡◌, drop}
use Rattle.packet.specs.code.Walked.{walked_by}
use Rattle.packet.proofs.hearing.observe_all.Given as goal

abbrev pub invariant-loop-place : goal.invariant-loop-place
invariant-loop-place l =
    walked_by l.l.highest l.l.delay l.state l.after l.place-counter (drop l.place-counter l.observations)
    ≡ walked_by l.l.highest l.l.delay l.state l.state 0 l.observations
