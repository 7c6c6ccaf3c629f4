use Rattle.cadence_audit.proofs.AuditAgreement.{new_seats_more}
use Rattle.cadence_audit.proofs.seat.new_seats.Goals as goal

pub loop-number-preserved : goal.loop-number-preserved
loop-number-preserved g c =
    rw (c.in_ok-push.ensures.items, c.new.ensures) (new_seats_more c.loop-number.number c.loop-number.seats.items c.loop-number.invariant)
