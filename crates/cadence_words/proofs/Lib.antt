-- Start with `WordByWord`: words that are read one after the other. `WordCuts` divides a text into its words. `EventWords`
-- has the words of events and service checks, and `CommandWords` says which of them a first word begins. `CleanedWords` is about cleaned copies of words. `Durations` says
-- that a number with a unit is at most one duration.
pub mod CleanedWords
pub mod CommandWords
pub mod Durations
pub mod EventWords
pub mod WordByWord
pub mod WordCuts
