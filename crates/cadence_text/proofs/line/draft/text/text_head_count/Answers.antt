use Rattle.std.proofs.Common.{◌+◌, ◌%◌, ◌<◌, ◌^◌, ◌∙◌, [], ◌++◌, ap, arith, length, replicate}
use Rattle.cadence_text.specs.TextValue.{text_head, value_kind, value_text}
use Rattle.cadence_text.proofs.writing.LineLength.{head_with_short}
use Rattle.cadence_text.proofs.writing.WriterEnds.{counted_whole}
use Rattle.cadence_text.proofs.line.draft.text.text_head_count.Goals as goal

pub returns : goal.returns
returns c =
    let text = text_head c.args.prefix.now c.args.key.now c.args.value.now in
    let fits : c.length.result < 2 ^ 128 = omega (arith, c.length.type_inv) in
    let short : length text < 2 ^ 100 =
    head_with_short c.args.prefix.now c.args.key.now (value_text c.args.value.now) (value_kind c.args.value.now) c.push_text_head.ensures.prefix
    c.push_text_head.ensures.key (omega (arith, c.push_text_head.ensures.value)) in
    counted_whole c.length.result text fits (omega (arith, short))
    (ap (λ n. replicate ((n + 0) % 2 ^ 128) 0) c.length.ensures ∙ c.push_text_head.ensures.taken []
    ∙ ap (λ n. replicate ((n + length (text ++ [])) % 2 ^ 128) 0) c.new-counter.ensures)
