pub mod Status
pub mod Ascii
pub mod Calls
pub mod Texts
pub mod Tested
pub mod Tests
pub mod ClientState
pub mod Run
