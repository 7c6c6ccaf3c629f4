-- The proofs of `box_parts` are by hand. So are those of the pointers of `handle` and `sums_handle`: `Pointers` proves once
-- what both do, and `AsBox` has the types that they share. The other folders have the answers of single functions.
mod AsBox
mod Pointers
mod Variables
mod Results
mod EventLines
mod GivenLines
