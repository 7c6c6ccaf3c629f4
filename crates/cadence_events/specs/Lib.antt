pub mod Escapes
pub mod Fields
pub mod Lined
pub mod Event
pub mod ServiceCheck
pub mod Cleaned
pub mod Refusals
pub mod LineWriters
