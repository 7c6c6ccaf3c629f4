-- Start with `Floats`, which says that the text of the decimal is read as the float. `FittingDigits` says when digits
-- with a power of ten fit a `Decimal`, and `Zero` is about zero.
mod FittingDigits
pub mod Floats
mod Zero
