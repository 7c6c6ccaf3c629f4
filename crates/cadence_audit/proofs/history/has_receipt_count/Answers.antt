use Rattle.std.proofs.Common.{length, arith, ap}
use Rattle.std.proofs.lemmas.List.{take_all}
use Rattle.std.proofs.lemmas.Bool.Decides.{nat_tests}
use Rattle.cadence_audit.specs.AuditSeats.{receipt_count}
use Rattle.cadence_audit.proofs.AuditAgreement.{receipts_more}
use Rattle.cadence_audit.proofs.history.has_receipt_count.Goals as goal

pub returns-then-receipts-left : goal.returns-then-receipts-left
returns-then-receipts-left g c =
    let more = receipts_more c.args.seats.now c.loop-seat.seat-index _ c.seat-item.result
    c.loop-seat-test.true c.seat-item.is (ap length c.receipts-receipts.ensures.receipts) in
    (λ h. cc, λ eq. absurd (omega (arith, more.0, more.1)))

pub loop-seat-preserved : goal.loop-seat-preserved
loop-seat-preserved g c =
    let more = receipts_more c.args.seats.now c.loop-seat.seat-index _ c.seat-item.result
    c.loop-seat-test.true c.seat-item.is (ap length c.receipts-receipts.ensures.receipts) in
    omega (arith, more.0)

pub returns : goal.returns
returns g c =
    let whole = take_all c.loop-seat.seat-index c.args.seats.now c.loop-seat-test.false in
    let all = ap receipt_count whole in
    (λ h. grind (arith, nat_tests), λ eq. grind (arith, nat_tests))
