-- Start with `Runs`, the theorem of the crate: many calls, one after the other, lose no line. The folders have the answers
-- of single functions.
pub mod Lines
pub mod Lists
pub mod Masks
pub mod Runs
