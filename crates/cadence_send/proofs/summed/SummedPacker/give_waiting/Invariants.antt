use Rattle.std.proofs.Common.{◌≡◌, [], length}
use Rattle.cadence_aggregating.specs.Summed.{accepted_in, held_in, waiting_in}
use Rattle.cadence_send.specs.Summed.{GivesToPacker, sums_of}
use Rattle.cadence_send.proofs.summed.SummedPacker.give_waiting.Given as goal

abbrev pub decreases-loop-line : goal.decreases-loop-line
decreases-loop-line g l = length (waiting_in (sums_of l.self))

abbrev pub invariant-loop-line : goal.invariant-loop-line
invariant-loop-line g l =
    GivesToPacker g.T.PacketWriter.kind g.T.PacketWriter.history l.initial.self l.self
    × (accepted_in (sums_of l.self) ≡ accepted_in (sums_of l.initial.self))
    × (held_in (sums_of l.self) ≡ held_in (sums_of l.initial.self))
    × (waiting_in (sums_of l.initial.self) ≡ [] → l.self ≡ l.initial.self)
