-- Start with `RunReads`: what is read from the packets of a run are the metrics of its kept calls. `Filtered`, `Printed` and
-- `Told` are about the lines that are printed.
pub mod Filtered
pub mod Printed
pub mod RunReads
pub mod Told
