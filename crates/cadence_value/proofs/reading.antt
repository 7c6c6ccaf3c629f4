-- Reading numbers: digits and a sign determine one number.
pub mod DigitRuns
pub mod DigitsRead
pub mod NumberRead
pub mod SignedDigits
