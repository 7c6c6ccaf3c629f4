-- Writing a line: what its writers end with, how long it is, and drafts of it.
pub mod WriterEnds
pub mod ConvertedLists
pub mod LineLength
pub mod WindowText
pub mod DraftText
pub mod CleanedPieces
