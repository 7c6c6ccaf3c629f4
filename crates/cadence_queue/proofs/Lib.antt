-- Start with `QueueModel`: what each step of a queue does to its past. `QueuePast` does the same for the record of a
-- queue, and `QueueEnds` for a queue at its end and for one that drops no text. `TakenTexts` is about what a taker still has.
pub mod QueueEnds
pub mod QueueModel
pub mod QueuePast
pub mod Results
pub mod TakenTexts
