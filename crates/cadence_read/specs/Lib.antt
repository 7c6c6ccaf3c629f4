pub mod Cuts
pub mod EventLines
pub mod Faults
pub mod Listed
pub mod LineTexts
pub mod Reads
pub mod Values
