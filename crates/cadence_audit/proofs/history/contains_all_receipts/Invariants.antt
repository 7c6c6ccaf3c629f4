use Rattle.std.proofs.Common.{All, take}
use Rattle.cadence_audit.specs.AuditSeats.{IsRecordedIn}
use Rattle.cadence_audit.proofs.history.contains_all_receipts.Given as goal

abbrev pub invariant-loop-seat : goal.invariant-loop-seat
invariant-loop-seat g l = All (IsRecordedIn l.events) (take l.seat-index l.seats)
