use Rattle.cadence_read.proofs.Utf8Parts.{field_utf8}
use Rattle.cadence_read.proofs.text_parts.cut_text_field.Goals as goal

pub as_text-requires : goal.as_text-requires
as_text-requires c =
    let cut = c.cut_field in
    (field_utf8 c.as_bytes.result.now cut.result.0.now cut.result.1.now c.as_bytes.ensures.utf8 cut.ensures.whole cut.ensures.fields).0

pub as_text-requires-2 : goal.as_text-requires-2
as_text-requires-2 c =
    let cut = c.cut_field in
    (field_utf8 c.as_bytes.result.now cut.result.0.now cut.result.1.now c.as_bytes.ensures.utf8 cut.ensures.whole cut.ensures.fields).1
