pub mod Address
pub mod Lookups
pub mod Preferred
pub mod Refusals
pub use Rattle.cadence_errors.specs.Errors
