pub mod AuditedCore
pub mod AuditHistory
pub mod AuditSeats
pub mod TakenText
pub use Rattle.cadence_errors.specs.Errors
