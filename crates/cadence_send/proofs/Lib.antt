-- Start with `Feeding`: input that arrives piece by piece, and the lines that a packer takes of it. `Fates` counts the
-- packets that were lost, and `Targets` reads addresses.
pub mod Fates
pub mod Feeding
pub mod Summing
pub mod Targets
