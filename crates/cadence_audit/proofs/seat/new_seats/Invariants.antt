use Rattle.cadence_audit.specs.AuditSeats.{AreNewSeats}
use Rattle.cadence_audit.proofs.seat.new_seats.Given as goal

abbrev pub invariant-loop-number : goal.invariant-loop-number
invariant-loop-number g l = AreNewSeats l.number l.seats.items
