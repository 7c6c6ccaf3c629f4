-- `Looks` is about what a look at a queue shows.
pub mod Looks
