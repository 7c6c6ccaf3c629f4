-- The words of a history: accepted, taken, dropped and kept lines, the queue and the hand, turn by turn.
pub mod CallReplies
pub mod KeptLines
pub mod KeptMetrics
pub mod NoneDropped
pub mod OneTurnMore
pub mod QueueAndHand
pub mod UndroppedLines
