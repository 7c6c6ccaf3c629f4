-- `Escaping` is about escaped texts: how long they are, and how they are cut at a newline or a colon. `Lengths` is
-- about the lengths in the head of an event's line, `Defaults` about the default tags and the default container of a
-- client, and `CleanedTexts` about cleaned texts.
pub mod Escaping
pub mod Lengths
pub mod Defaults
pub mod CleanedTexts
