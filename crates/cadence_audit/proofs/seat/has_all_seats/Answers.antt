use Rattle.std.proofs.Common.{below_more, refl, arith}
use Rattle.cadence_audit.proofs.AuditAgreement.{fails}
use Rattle.cadence_audit.proofs.seat.has_all_seats.Goals as goal

pub returns-then-not-is_once : goal.returns-then-not-is_once
returns-then-not-is_once g c =
    (λ h. cc, λ all. absurd (fails c.is_once.ensures.1 c.if-not-is_once.true (all.1 c.loop-number.number c.loop-number-test.true)))

pub loop-number-preserved : goal.loop-number-preserved
loop-number-preserved g c = below_more _ _ c.loop-number.invariant (c.is_once.ensures.0 c.if-not-is_once.false)

pub returns : goal.returns
returns g c = (λ h. (c.if-seats-count.false, λ k lt. c.loop-number.invariant k (omega arith)), λ all. refl)
