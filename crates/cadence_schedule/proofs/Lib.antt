-- Start with `headline.WholeRun`, which proves specs/Headline.antt of a whole run, and with the answer of
-- `run_schedule_with`, which uses it. docs/internals/theorems.md, "The ladder of lemmas", says how the folders build on
-- each other: `plans`, `packets`, `history`, `headline`, and `summed` for the run with an aggregator.
pub mod headline
pub mod history
pub mod packets
pub mod plans
pub mod summed
