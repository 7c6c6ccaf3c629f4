use Rattle.std.proofs.Common.{◌≡◌, ◌<◌, length, arith, ap}
use Rattle.cadence_audit.specs.AuditHistory.{event_count}
use Rattle.cadence_audit.proofs.AuditSteps.{same_count, counted_get}
use Rattle.cadence_audit.proofs.audited_core.AuditedCore.knows.Goals as goal

pub returns-then-number-len : goal.returns-then-number-len
returns-then-number-len g c =
    let number = c.args.seat.now.number in
    let inside : number < length c.self.inside.counts.items = omega (arith, c.number-number.ensures) in
    let seats : length c.self.inside.counts.items ≡ c.args.self.now.seats = ap (λ p. p.seats) c.self.view_is in
    let count : c.index.result.now ≡ event_count number c.args.self.now.events =
    rw (← ap (λ p. p.events) c.self.view_is) (counted_get c.self.inside.events.items c.self.inside.counts.items
    c.self.invariant.counted number c.index.result.now inside (rw (← c.number-number.ensures) c.index.ensures)) in
    let both = same_count c.index.result.now (length c.receipts.result.now) _ _ count (ap length c.receipts.ensures.receipts) in
    (λ eq. (omega (arith, seats), both.0 eq), λ known. both.1 known.1)
