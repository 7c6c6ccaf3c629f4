use Rattle.std.proofs.Common.{◌≡◌, ◌+◌, length, arith, rules, refl, ap, sym, ◌∙◌}
use Rattle.std.proofs.lemmas.List.{length-set}
use Rattle.cadence_audit.specs.AuditedCore.{IsKnown}
use Rattle.cadence_audit.specs.declared.event.AuditCall.TheVariants as call
use Rattle.cadence_audit.specs.declared.event.AuditReply.TheVariants as reply
use Rattle.cadence_audit.proofs.AuditAgreement.{fails}
use Rattle.cadence_audit.proofs.AuditSteps.{kept_take, receipts_push, taken_is_first, did_nothing, notes}
use Rattle.cadence_audit.proofs.audited_core.AuditedCore.take.Goals as goal

pub returns-then-not-knows-clause-err : goal.returns-then-not-knows-clause-err
returns-then-not-knows-clause-err g c = (fails c.knows.ensures.1 c.if-not-knows.true, refl, refl)

pub returns-in_err-noted-clause-err : goal.returns-in_err-noted-clause-err
returns-in_err-noted-clause-err g c =
    let known = c.knows.ensures.0 c.if-not-knows.false in
    did_nothing _ c.args.self.now _ c.args.seat.now _ c.from_residual.ensures.1 known refl refl

pub returns-in_err-kept-clause-err : goal.returns-in_err-kept-clause-err
returns-in_err-kept-clause-err g c =
    let known = c.knows.ensures.0 c.if-not-knows.false in
    let want = c.from_residual-in_err-kept.ensures.1 in
    did_nothing _ c.args.self.now _ c.args.seat.now _ want known refl refl

pub invariant_of-self : goal.invariant_of-self
invariant_of-self g c = rw c.make_room.ensures.same.0 c.self.invariant

pub invariant_of-seat : goal.invariant_of-seat
invariant_of-seat g c = rw c.make_room.ensures.same.1 c.seat.invariant

pub returns-in_err-make_room-clause-err : goal.returns-in_err-make_room-clause-err
returns-in_err-make_room-clause-err g c =
    let known = c.knows.ensures.0 c.if-not-knows.false in
    let want = c.from_residual-in_err-make_room.ensures.1 in
    let past = rw (← c.make_room.ensures.same.0) at c.self.view_is in
    let seat = rw (← c.make_room.ensures.same.1) at c.seat.view_is in
    did_nothing _ c.args.self.now _ c.args.seat.now _ want known past seat

pub invariant_of-seat-2 : goal.invariant_of-seat-2
invariant_of-seat-2 g c = rw c.make_room.ensures.same.1 c.seat.invariant

pub invariant_of-seat-3 : goal.invariant_of-seat-3
invariant_of-seat-3 g c = rw c.make_room.ensures.same.1 c.seat.invariant

pub push_reserved-requires : goal.push_reserved-requires
push_reserved-requires g c = c.in_ok-make_room.ensures.room.0

pub push_reserved-requires-2 : goal.push_reserved-requires-2
push_reserved-requires-2 g c = c.in_ok-make_room.ensures.room.1

pub invariant_of-self-2 : goal.invariant_of-self-2
invariant_of-self-2 g c =
    let known : IsKnown c.args.self.now c.args.seat.now = c.knows.ensures.0 c.if-not-knows.false in
    let mine = rw (← c.self.view_is, ← c.seat.view_is) at known in
    let more : c.len.result ≡ length c.seat.inside.receipts.items + 1 = omega (arith, ap length c.make_room.ensures.same.1) in
    let same : c.in_ok-noted.noted ≡ c.take-taken.result = c.in_ok-noted.ensures ∙ sym (taken_is_first _ _ _ c.take-taken.ensures.taken) in
    rw (c.push_reserved.ensures.items, c.next_event-event.ensures, c.make_room.ensures.same.0, c.make_room.ensures.same.1, more, same)
    (kept_take c.self.inside.capacity c.self.inside.events.items c.self.inside.core c.take-taken.new.self c.self.inside.counts.items
    c.seat.inside.number (length c.seat.inside.receipts.items) c.take-taken.result c.self.invariant mine.1 c.take-taken.ensures.taken
    c.take-taken.ensures.past)

pub invariant_of-seat-4 : goal.invariant_of-seat-4
invariant_of-seat-4 g c =
    rw (c.push_reserved-2.ensures.items, c.next_event-receipt.ensures, c.make_room.ensures.same.1)
    (receipts_push c.seat.inside.number c.seat.inside.receipts.items _ c.seat.invariant refl refl)

pub returns-clause-ok : goal.returns-clause-ok
returns-clause-ok g c =
    let first = taken_is_first _ _ _ c.take-taken.ensures.taken in
    let same : c.in_ok-noted.noted ≡ c.take-taken.result = c.in_ok-noted.ensures ∙ sym first in
    let copy : c.in_ok-kept.kept ≡ c.in_ok-noted.noted = search rules in
    let past = rw (← c.make_room.ensures.same.0) at c.self.view_is in
    let seat = rw (← c.make_room.ensures.same.1) at c.seat.view_is in
    notes c.args.self.now _ c.args.seat.now _ call.Take (reply.Take c.take-taken.result) past seat
    c.next_event-event.ensures c.next_event-receipt.ensures refl refl
    (ap reply.Take same) (ap reply.Take (copy ∙ same))
    (rw (c.push_reserved.ensures.items, length-set) refl)
    (rw c.push_reserved-2.ensures.items refl)
