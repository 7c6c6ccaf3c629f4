-- The packets of a run: the cut of the kept lines, and what the packer does to it.
pub mod CutLengths
pub mod CutSoFar
pub mod ListEnds
pub mod PackedLines
pub mod PackerSteps
pub mod PacketMetrics
pub mod Refusing
