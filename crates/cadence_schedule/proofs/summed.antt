-- The run with sums before its packer: what the calls of the sums do, and what a whole run shows.
pub mod Calling
pub mod EachCall
pub mod Ended
pub mod Erring
pub mod Filled
pub mod Giving
pub mod InTurn
