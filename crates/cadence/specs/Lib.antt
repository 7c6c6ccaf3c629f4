pub mod Events
pub mod Metrics
pub mod Own
pub mod Sending
pub mod Shown
