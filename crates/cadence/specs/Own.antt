-- The words that a value of a caller's own type states its numbers with: `natural` for an unsigned number, `whole` for
-- a signed one.
pub use Rattle.cadence_value.specs.Number.{natural, whole}
