-- The headline: what holds after each turn of a run, and what a whole run shows, whatever takes the lines handed on.
pub mod FinishedRun
pub mod PackedRun
pub mod Queued
pub mod QueuedRun
pub mod ReplyCauses
pub mod RunOfTurns
pub mod WholeRun
