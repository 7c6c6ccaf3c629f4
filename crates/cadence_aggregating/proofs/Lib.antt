-- Start with `Records`, which takes the record of an aggregator one step further. `Saying` and `Sayable` are about what a
-- line says, `OwnContext` about the contexts of this library's own lines, and `Origins` says
-- where the lines come from that are sent. `Keyed`, `Spliced` and `Called` are about calls by a key, `Among` is about single
-- samples, `RunSteps` is about a whole run, and `FewerWait` about lists of lines that wait.
pub mod Among
pub mod Called
pub mod FewerWait
pub mod Keyed
pub mod Origins
pub mod OwnContext
pub mod Records
pub mod RunSteps
pub mod Sayable
pub mod Saying
pub mod Spliced
