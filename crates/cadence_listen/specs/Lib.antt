pub mod Filters
pub mod Lines
pub mod Places
pub mod Readable
pub mod Rows
pub mod RunRead
