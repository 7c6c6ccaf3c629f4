use Rattle.std.proofs.Common.{◌≡◌, ◌+◌, length, arith, refl, ap}
use Rattle.std.proofs.lemmas.List.{length-set}
use Rattle.cadence_audit.specs.AuditedCore.{IsKnown}
use Rattle.cadence_audit.specs.declared.event.AuditCall.TheVariants as call
use Rattle.cadence_audit.specs.declared.event.AuditReply.TheVariants as reply
use Rattle.cadence_audit.proofs.AuditAgreement.{fails}
use Rattle.cadence_audit.proofs.AuditSteps.{kept_submit, receipts_push, given_back, notes}
use Rattle.cadence_audit.proofs.audited_core.AuditedCore.submit.Goals as goal

pub returns-then-not-knows-clause-err : goal.returns-then-not-knows-clause-err
returns-then-not-knows-clause-err g c = (fails c.knows.ensures.1 c.if-not-knows.true, refl, refl)

pub returns-in_default-clause-err : goal.returns-in_default-clause-err
returns-in_default-clause-err g c = (c.knows.ensures.0 c.if-not-knows.false, refl, refl)

pub invariant_of-self : goal.invariant_of-self
invariant_of-self g c = rw c.make_room.ensures.same.0 c.self.invariant

pub invariant_of-seat : goal.invariant_of-seat
invariant_of-seat g c = rw c.make_room.ensures.same.1 c.seat.invariant

pub returns-then-is_err-clause-err : goal.returns-then-is_err-clause-err
returns-then-is_err-clause-err g c = (
  c.knows.ensures.0 c.if-not-knows.false,
  rw (← c.make_room.ensures.same.0) at c.self.view_is,
  rw (← c.make_room.ensures.same.1) at c.seat.view_is,
)

pub invariant_of-self-in-Err : goal.invariant_of-self-in-Err
invariant_of-self-in-Err g c =
    let core = given_back c.self.inside.core c.submit.new.self c.args.text c.in-Err.text
    c.submit.result c.submit.ensures.refused c.in-Err.ensures in
    rw (c.make_room.ensures.same.0, core) c.self.invariant

pub invariant_of-seat-in-Err : goal.invariant_of-seat-in-Err
invariant_of-seat-in-Err g c = rw c.make_room.ensures.same.1 c.seat.invariant

pub returns-in-Err-clause-err : goal.returns-in-Err-clause-err
returns-in-Err-clause-err g c = (
  c.knows.ensures.0 c.if-not-knows.false,
  rw (← c.make_room.ensures.same.0) at c.self.view_is,
  rw (← c.make_room.ensures.same.1) at c.seat.view_is,
)

pub invariant_of-seat-2 : goal.invariant_of-seat-2
invariant_of-seat-2 g c = rw c.make_room.ensures.same.1 c.seat.invariant

pub invariant_of-seat-3 : goal.invariant_of-seat-3
invariant_of-seat-3 g c = rw c.make_room.ensures.same.1 c.seat.invariant

pub invariant_of-self-2 : goal.invariant_of-self-2
invariant_of-self-2 g c =
    let known : IsKnown c.args.self.now c.args.seat.now = c.knows.ensures.0 c.if-not-knows.false in
    let mine = rw (← c.self.view_is, ← c.seat.view_is) at known in
    let more : c.len.result ≡ length c.seat.inside.receipts.items + 1 = omega (arith, ap length c.make_room.ensures.same.1) in
    rw (c.push_reserved.ensures.items, c.next_event-event.ensures, c.make_room.ensures.same.0, c.make_room.ensures.same.1, more, c.in-Ok.ensures.0)
    (kept_submit c.self.inside.capacity c.self.inside.events.items c.self.inside.core c.submit.new.self c.self.inside.counts.items
    c.seat.inside.number (length c.seat.inside.receipts.items) c.args.text c.submit.result c.in-Ok-submit_reply.reply c.self.invariant
    mine.1 c.submit.ensures.accepted c.submit.ensures.past c.submit.ensures.refused c.in-Ok-submit_reply.ensures)

pub invariant_of-seat-4 : goal.invariant_of-seat-4
invariant_of-seat-4 g c =
    rw (c.push_reserved-2.ensures.items, c.next_event-receipt.ensures, c.make_room.ensures.same.1)
    (receipts_push c.seat.inside.number c.seat.inside.receipts.items _ c.seat.invariant refl refl)

pub returns-clause-ok : goal.returns-clause-ok
returns-clause-ok g c =
    let past = rw (← c.make_room.ensures.same.0) at c.self.view_is in
    let seat = rw (← c.make_room.ensures.same.1) at c.seat.view_is in
    notes c.args.self.now _ c.args.seat.now _
    (call.Submit c.args.text) (reply.Submit c.in-Ok-submit_reply.reply) past seat
    c.next_event-event.ensures c.next_event-receipt.ensures
    (ap call.Submit c.in-Ok.ensures.0) (ap call.Submit c.in-Ok.ensures.1) refl refl
    (rw (c.push_reserved.ensures.items, length-set) refl)
    (rw c.push_reserved-2.ensures.items refl)
