use Rattle.std.proofs.Common.{◌+◌, ◌%◌, ◌<◌, ◌^◌, ◌∙◌, [], ◌++◌, ap, arith, length, replicate}
use Rattle.cadence_text.specs.Line.{line_of}
use Rattle.cadence_text.proofs.writing.LineLength.{line_is_short}
use Rattle.cadence_text.proofs.writing.WriterEnds.{counted_whole}
use Rattle.cadence_text.proofs.line.record.Record.counted.Goals as goal

pub returns : goal.returns
returns g c =
    let line = line_of c.args.self.now in
    let short : length line < 2 ^ 126 = line_is_short c.args.self.now c.push_line.ensures.sized in
    let fits : c.length.result < 2 ^ 128 = omega (arith, c.length.type_inv) in
    counted_whole c.length.result line fits (omega arith)
    (ap (λ n. replicate ((n + 0) % 2 ^ 128) 0) c.length.ensures ∙ c.push_line.ensures.taken []
    ∙ ap (λ n. replicate ((n + length (line ++ [])) % 2 ^ 128) 0) c.new-counter.ensures)
