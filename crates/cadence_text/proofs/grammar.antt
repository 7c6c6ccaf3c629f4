-- The grammar of lines: lines read in one way, which texts are free of separators, and cleaned texts.
pub mod LineText
pub mod FreeTexts
pub mod Cleaned
pub mod SeparatorTable
