-- Lists: where a text splits, and what a loop over a list shows of its elements.
pub mod SplitTexts
pub mod LoopElements
