use Rattle.std.proofs.Common.{◌≡◌, All, Contains, take}
use Rattle.cadence_audit.specs.AuditHistory.{event_count}
use Rattle.cadence_audit.proofs.history.contains_receipts.Given as goal

abbrev pub invariant-loop-event : goal.invariant-loop-event
invariant-loop-event g l = record {
  found : l.found ≡ event_count l.number (take l.event-index l.events);
  held : All (Contains l.events) (take l.found l.receipts);
}
