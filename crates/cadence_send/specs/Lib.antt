pub mod Fed
pub mod Losses
pub mod Sent
pub mod Streams
pub mod Summed
pub mod Takes
pub mod Target
pub mod Writers
