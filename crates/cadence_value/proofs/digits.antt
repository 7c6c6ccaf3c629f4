-- The digits of whole and decimal numbers: how they are written, and how many they are.
pub mod PowersOfTen
pub mod Digits
pub mod WholeNumberText
pub mod NumberText
pub mod NumberLength
pub mod DurationNumbers
