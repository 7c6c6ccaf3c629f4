use Rattle.std.proofs.Common.{◌≡◌, ◌+◌, take}
use Rattle.cadence_audit.specs.AuditSeats.{receipt_count}
use Rattle.cadence_audit.proofs.history.has_receipt_count.Given as goal

abbrev pub invariant-loop-seat : goal.invariant-loop-seat
invariant-loop-seat g l = l.left + receipt_count (take l.seat-index l.seats) ≡ l.count
