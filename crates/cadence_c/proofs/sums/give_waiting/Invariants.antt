use Rattle.std.proofs.Common.{◌≡◌, [], length}
use Rattle.cadence_aggregating.specs.Summed.{accepted_in, held_in, waiting_in}
use Rattle.cadence_c.specs.Sums.{GivesLines}
use Rattle.cadence_c.proofs.sums.give_waiting.Given as goal

abbrev pub decreases-loop-line : goal.decreases-loop-line
decreases-loop-line l = length (waiting_in l.lines)

abbrev pub invariant-loop-line : goal.invariant-loop-line
invariant-loop-line l =
    GivesLines l.initial.lines l.lines l.initial.client l.client
    × (accepted_in l.lines ≡ accepted_in l.initial.lines)
    × (held_in l.lines ≡ held_in l.initial.lines)
    × (waiting_in l.initial.lines ≡ [] → (l.lines ≡ l.initial.lines) × (l.client ≡ l.initial.client))
