-- Start with `PacketRead`, where a packet is read, and go down: `LineParts` has the fields of a line, `FieldsRead` the
-- values in them, and `Pieces` the texts between marks. `RunRead` reads the packets of a run, one after the other.
-- `Cuts`, `OwnLines` and `EventLines` are about lines that are cut and not read, `Utf8Parts` is about parts that are texts,
-- and `ValuesRead` about values in any spelling.
pub mod Cuts
pub mod OwnLines
pub mod EventLines
pub mod Pieces
pub mod LineParts
pub mod FieldsRead
pub mod PacketRead
pub mod RunRead
pub mod Utf8Parts
pub mod ValuesRead
