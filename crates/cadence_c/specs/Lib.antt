pub mod Environment
pub mod Results
pub mod Slot
pub mod Handle
pub mod Events
pub mod Sums
pub mod SumsHandle
pub mod SumsKeys
