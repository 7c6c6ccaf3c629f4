use Rattle.std.proofs.Common.{◌≡◌, ap, subst, sym, refl, ◌∙◌}
use Rattle.cadence_audit.specs.AuditHistory.{IsLegal}
use Rattle.cadence_audit.proofs.AuditAgreement.{fails, same_capacity}
use Rattle.cadence_audit.proofs.AuditedQueue.end.Goals as goal

pub returns-then-not-has_all_seats-clause-missing : goal.returns-then-not-has_all_seats-clause-missing
returns-then-not-has_all_seats-clause-missing g c =
    let count : c.self.inside.seats ≡ c.args.self.seats = ap (λ p. p.seats) c.self.view_is in
    (λ _ h. fails c.has_all_seats.ensures.1 c.if-not-has_all_seats.true (rw (count, c.as_slice.ensures.value) h), λ _. refl)

pub returns-then-ne-clause-missing : goal.returns-then-ne-clause-missing
returns-then-ne-clause-missing g c =
    let count : c.self.inside.seats ≡ c.args.self.seats = ap (λ p. p.seats) c.self.view_is in
    (λ q. cc, λ not. absurd (not (rw (count, c.as_slice.ensures.value) at (c.has_all_seats.ensures.0 c.if-not-has_all_seats.false))))

pub of-history-requires : goal.of-history-requires
of-history-requires g c = λ i e got. (c.into_events.ensures.legal i e got).1

pub returns-then-agrees-clause-missing : goal.returns-then-agrees-clause-missing
returns-then-agrees-clause-missing g c =
    let count : c.self.inside.seats ≡ c.args.self.seats = ap (λ p. p.seats) c.self.view_is in
    (λ q. cc, λ not. absurd (not (rw (count, c.as_slice.ensures.value) at (c.has_all_seats.ensures.0 c.if-not-has_all_seats.false))))

pub returns-then-agrees-clause-all : goal.returns-then-agrees-clause-all
returns-then-agrees-clause-all g c =
    let count : c.self.inside.seats ≡ c.args.self.seats = ap (λ p. p.seats) c.self.view_is in
    rw (count, c.as_slice.ensures.value) at (c.has_all_seats.ensures.0 c.if-not-has_all_seats.false)

pub returns-then-agrees-clause-legal : goal.returns-then-agrees-clause-legal
returns-then-agrees-clause-legal g c =
    let mine : c.self.inside.capacity ≡ c.args.self.capacity = ap (λ p. p.capacity) c.self.view_is in
    let same : c.capacity.result ≡ c.self.inside.capacity = same_capacity c.capacity.result c.self.inside.capacity c.if-ne.ensures in
    subst (λ es. IsLegal c.args.self.capacity es) (sym c.of-history.ensures)
    (subst (λ k. IsLegal k c.into_events.result.items) (sym c.capacity.ensures
    ∙ same ∙ mine) c.into_events.ensures.legal)

pub returns-then-agrees-clause-order : goal.returns-then-agrees-clause-order
returns-then-agrees-clause-order g c = rw c.of-history.ensures c.into_events.ensures.order

pub returns-then-agrees-clause-as_many : goal.returns-then-agrees-clause-as_many
returns-then-agrees-clause-as_many g c = (rw c.as_slice-2.ensures.value at (c.agrees.ensures.0 c.if-agrees.true)).0

pub returns-then-agrees-clause-each : goal.returns-then-agrees-clause-each
returns-then-agrees-clause-each g c = (rw c.as_slice-2.ensures.value at (c.agrees.ensures.0 c.if-agrees.true)).1

pub returns-clause-missing : goal.returns-clause-missing
returns-clause-missing g c =
    let count : c.self.inside.seats ≡ c.args.self.seats = ap (λ p. p.seats) c.self.view_is in
    (λ q. cc, λ not. absurd (not (rw (count, c.as_slice.ensures.value) at (c.has_all_seats.ensures.0 c.if-not-has_all_seats.false))))
