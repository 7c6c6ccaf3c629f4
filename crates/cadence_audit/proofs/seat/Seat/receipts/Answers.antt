use Rattle.cadence_audit.proofs.seat.Seat.receipts.Goals as goal

pub returns-clause-own : goal.returns-clause-own
returns-clause-own g c = rw (c.as_slice.ensures.value, ← c.self.view_is) c.self.invariant
