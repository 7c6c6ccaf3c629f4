-- Start with `AuditSteps`: what each call does to the history and to the queue under the lock. `AuditAgreement`
-- compares the receipts of the seats with that history.
pub mod AuditAgreement
pub mod AuditSteps
