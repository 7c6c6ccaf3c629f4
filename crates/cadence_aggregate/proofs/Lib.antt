-- Start with `Observed`, which says what a server knows after two lists from what it knows after each of them.
-- `Rearranged` and `Rewrites` say after which changes a server knows the same, and `SumSteps`, `TimingSteps` and
-- `OtherSteps` say this of one step of a table. `Tables` and `Within` are about what a table holds, `Fewest` says that
-- each context that is held needs a line, and `RunSteps` is about a whole run. `InPlace` is about values that are written
-- in the place of their entry, and `InTurn` about sending the lines that are due before the others.
pub mod Fewest
pub mod InPlace
pub mod InTurn
pub mod Observed
pub mod OtherSteps
pub mod Rearranged
pub mod Rewrites
pub mod RunSteps
pub mod SumSteps
pub mod Tables
pub mod TimingSteps
pub mod Within
