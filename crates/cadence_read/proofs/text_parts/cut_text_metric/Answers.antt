use Rattle.cadence_read.proofs.Utf8Parts.{parts_utf8}
use Rattle.cadence_read.specs.Cuts.{parts_of}
use Rattle.cadence_read.proofs.text_parts.cut_text_metric.Goals as goal

pub as_text-requires : goal.as_text-requires
as_text-requires c = (parts_utf8 c.as_bytes.result.now (parts_of c.in_ok-parts.parts) c.as_bytes.ensures.utf8 c.in_ok-parts.ensures).name

pub as_text-requires-2 : goal.as_text-requires-2
as_text-requires-2 c = (parts_utf8 c.as_bytes.result.now (parts_of c.in_ok-parts.parts) c.as_bytes.ensures.utf8 c.in_ok-parts.ensures).values

pub as_text-requires-3 : goal.as_text-requires-3
as_text-requires-3 c = (parts_utf8 c.as_bytes.result.now (parts_of c.in_ok-parts.parts) c.as_bytes.ensures.utf8 c.in_ok-parts.ensures).kind

pub as_text-requires-4 : goal.as_text-requires-4
as_text-requires-4 c = (parts_utf8 c.as_bytes.result.now (parts_of c.in_ok-parts.parts) c.as_bytes.ensures.utf8 c.in_ok-parts.ensures).fields
