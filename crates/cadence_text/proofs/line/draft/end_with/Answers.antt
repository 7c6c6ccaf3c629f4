use Rattle.std.proofs.Common.{◌≡◌, ◌+◌, [], ◌++◌, arith, length, length-append, rules}
use Rattle.std.specs.Option.{option_copied}
use Rattle.cadence_text.specs.Cleaned.{container_as}
use Rattle.cadence_text.specs.Line.{container_field, enrichment_fields, time_field}
use Rattle.cadence_text.specs.Record.{enrichment_of}
use Rattle.cadence_text.proofs.writing.CleanedPieces.{container_length}
use Rattle.cadence_text.proofs.writing.WriterEnds.{filled_more}
use Rattle.cadence_text.proofs.line.draft.end_with.Goals as goal

pub returns : goal.returns
returns g c =
    let old = c.args.line.now.bytes.items in
    let begun = c.reserve.new.self in
    let last = c.push_last_as.new.line in
    let container = option_copied c.args.container in
    let ending = enrichment_fields (enrichment_of c.args.enrichment.now) ++ time_field c.args.time in
    let text = container_field (container_as c.args.is_cleaned container) ++ ending in
    let whole : c.in-Some.room ≡ length (container_field container ++ ending) = search rules in
    let room : c.in-Some.room ≡ length text =
    omega (
      arith,
      whole,
      container_length c.args.is_cleaned container,
      length-append (container_field container) ending,
      length-append (container_field (container_as c.args.is_cleaned container)) ending,
    ) in
    let end : begun.end ≡ length old + c.in-Some.room = search rules in
    filled_more begun.end last.end old begun.bytes.items last.bytes.items text (omega (arith, c.requires)) (omega (arith, room, end))
    c.reserve.ensures.text (c.push_last_as.ensures [])
