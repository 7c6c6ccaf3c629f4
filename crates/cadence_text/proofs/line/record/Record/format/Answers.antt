use Rattle.std.proofs.Common.{◌∙◌, []}
use Rattle.cadence_text.specs.Line.{line_of}
use Rattle.cadence_text.proofs.grammar.LineText.{line_is_not_empty}
use Rattle.cadence_text.proofs.writing.WriterEnds.{filled_whole}
use Rattle.cadence_text.proofs.line.record.Record.format.Goals as goal

pub returns-clause-line : goal.returns-clause-line
returns-clause-line g c =
    let begun = c.in_ok-line.line in
    let ended = c.push_line.new.line in
    c.into_text.ensures
    ∙ filled_whole begun.end ended.end begun.bytes.items ended.bytes.items (line_of c.args.self.now) (line_is_not_empty c.args.self.now)
    c.in_ok-line.ensures.empty c.in_ok-line.ensures.end (c.push_line.ensures.taken [])
