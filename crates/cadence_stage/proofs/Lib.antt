-- Start with `Pasts`: what one more call adds to a past. The proofs of `ghost_texts` and `ghost_log` are by hand. Of the
-- last, `Halves` has the steps, and `GhostLog` the proofs that serve two functions each.
mod GhostLog
mod Halves
pub mod Pasts
