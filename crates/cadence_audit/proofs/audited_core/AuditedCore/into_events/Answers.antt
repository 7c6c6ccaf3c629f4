use Rattle.std.proofs.Common.{ap, subst}
use Rattle.cadence_audit.specs.AuditHistory.{IsLegal}
use Rattle.cadence_audit.proofs.audited_core.AuditedCore.into_events.Goals as goal

pub returns-clause-legal : goal.returns-clause-legal
returns-clause-legal g c =
    subst (λ k. IsLegal k c.self.inside.events.items) (ap (λ p. p.capacity) c.self.view_is) c.self.invariant.legal
