-- Calls: their options and metrics, the drafts of their lines, and the prefix.
pub mod CallOptions
pub mod FreeTexts
pub mod KeptTexts
pub mod NonemptyLines
pub mod TrailingDots
