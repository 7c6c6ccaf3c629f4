-- Start with `digits/NumberText`: different numbers have different texts. `reading` is about how such a text is read
-- back, and uses `digits`; `spelling` is about numbers in any spelling. `lists/SplitTexts` is about texts that split in one way only.
pub mod digits
pub mod reading
pub mod spelling
pub mod lists
