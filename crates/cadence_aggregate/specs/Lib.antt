pub mod Aggregate
pub mod Fewest
pub mod Held
pub mod Led
pub mod Lines
pub mod Quiet
pub mod Server
pub mod Within
