pub mod Address
pub mod Counts
pub mod Refusals
pub mod Reports
pub mod Shown
pub mod Waits
