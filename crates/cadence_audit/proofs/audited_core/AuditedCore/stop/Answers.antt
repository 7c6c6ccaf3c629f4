use Rattle.std.proofs.Common.{◌≡◌, ◌+◌, length, arith, refl, ap}
use Rattle.cadence_audit.specs.AuditedCore.{IsKnown}
use Rattle.cadence_audit.proofs.AuditSteps.{kept_stop, receipts_push}
use Rattle.cadence_audit.proofs.audited_core.AuditedCore.stop.Goals as goal

pub invariant_of-self-2 : goal.invariant_of-self-2
invariant_of-self-2 g c =
    let known : IsKnown c.args.self.now c.args.seat.now = c.knows.ensures.0 c.if-not-knows.false in
    let mine = rw (← c.self.view_is, ← c.seat.view_is) at known in
    let more : c.len.result ≡ length c.seat.inside.receipts.items + 1 = omega (arith, ap length c.make_room.ensures.same.1) in
    rw (c.push_reserved.ensures.items, c.next_event-event.ensures, c.make_room.ensures.same.0, c.make_room.ensures.same.1, more)
    (kept_stop c.self.inside.capacity c.self.inside.events.items c.self.inside.core c.stop.new.self c.self.inside.counts.items
    c.seat.inside.number (length c.seat.inside.receipts.items) c.self.invariant mine.1 c.stop.ensures)

pub invariant_of-seat-4 : goal.invariant_of-seat-4
invariant_of-seat-4 g c =
    rw (c.push_reserved-2.ensures.items, c.next_event-receipt.ensures, c.make_room.ensures.same.1)
    (receipts_push c.seat.inside.number c.seat.inside.receipts.items _ c.seat.invariant refl refl)
