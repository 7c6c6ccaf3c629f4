use Rattle.std.proofs.Common.{refl}
use Rattle.cadence_audit.specs.AuditSeats.{IsRecordedIn}
use Rattle.cadence_audit.proofs.AuditAgreement.{fails, all_not, all_more, all_done}
use Rattle.cadence_audit.proofs.history.contains_all_receipts.Goals as goal

pub contains_receipts-requires-clause-own : goal.contains_receipts-requires-clause-own
contains_receipts-requires-clause-own g c = rw c.number.ensures c.receipts.ensures.own

pub returns-then-not-contains_receipts : goal.returns-then-not-contains_receipts
returns-then-not-contains_receipts g c = (
  λ h. cc,
  λ all. absurd (all_not (IsRecordedIn c.args.events.now) c.args.seats.now c.loop-seat.seat-index c.seat-item.result
      c.loop-seat-test.true c.seat-item.is (λ recorded. fails (rw c.receipts.ensures.receipts at c.contains_receipts.ensures.1)
      c.if-not-contains_receipts.true recorded.0) all),
)

pub loop-seat-preserved : goal.loop-seat-preserved
loop-seat-preserved g c =
    all_more (IsRecordedIn c.args.events.now) c.args.seats.now c.loop-seat.seat-index c.seat-item.result c.loop-seat-test.true c.seat-item.is (
      rw c.receipts.ensures.receipts at (c.contains_receipts.ensures.0 c.if-not-contains_receipts.false),
      rw c.receipts.ensures.receipts at
          c.receipts.ensures.own,
    ) c.loop-seat.invariant

pub returns : goal.returns
returns g c =
    (λ h. all_done (IsRecordedIn c.args.events.now) c.args.seats.now c.loop-seat.seat-index c.loop-seat-test.false c.loop-seat.invariant, λ all. refl)
