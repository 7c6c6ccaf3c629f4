use Rattle.std.proofs.Common.{◌+◌, ◌%◌, ◌<◌, ◌^◌, ◌∙◌, [], ◌++◌, ap, arith, length, replicate}
use Rattle.cadence_value.specs.Values.{numbers_of}
use Rattle.cadence_text.specs.DraftParts.{text_of_head}
use Rattle.cadence_text.proofs.writing.LineLength.{head_is_short}
use Rattle.cadence_text.proofs.writing.WriterEnds.{counted_whole}
use Rattle.cadence_text.proofs.line.draft.head.head_count.Goals as goal

pub returns : goal.returns
returns g c =
    let head = c.args.head.now in
    let text = text_of_head head in
    let fits : c.length.result < 2 ^ 128 = omega (arith, c.length.type_inv) in
    let short : length text < 2 ^ 100 =
    head_is_short head.prefix.now head.key.now (numbers_of head.value) head.kind c.push_head.ensures.prefix c.push_head.ensures.key
    c.push_head.ensures.numbers in
    counted_whole c.length.result text fits (omega (arith, short))
    (ap (λ n. replicate ((n + 0) % 2 ^ 128) 0) c.length.ensures ∙ c.push_head.ensures.taken []
    ∙ ap (λ n. replicate ((n + length (text ++ [])) % 2 ^ 128) 0) c.new-counter.ensures)
