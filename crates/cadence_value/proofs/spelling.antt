-- Numbers in any spelling. Start with `OneReading`: a text says at most one number. `Lowest` says the same of its lowest form.
-- `OwnText` says that the text that a number prints is read as that number, and `NumberBytes` which bytes a number has.
pub mod Lowest
pub mod NumberBytes
pub mod OneReading
pub mod OwnText
pub mod Scaling
pub mod Trimming
