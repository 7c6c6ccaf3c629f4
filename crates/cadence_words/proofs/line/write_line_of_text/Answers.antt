use Rattle.std.proofs.Common.{subst}
use Rattle.cadence_words.specs.Asked.{words_of}
use Rattle.cadence_words.specs.Finds.{FindsOrFails}
use Rattle.cadence_words.specs.Lines.{IsLineOfWords}
use Rattle.cadence_words.proofs.WordByWord.{text_read}
use Rattle.cadence_words.proofs.line.write_line_of_text.Goals as goal

pub returns : goal.returns
returns g c =
    let d = c.args.defaults.now in
    let line = c.write_line_of_str.new.buffer.items in
    text_read d (λ _. line) c.args.text.now c.write_line_of_str.result c.in-Some.ensures.text.1
    (subst (λ t. FindsOrFails (IsLineOfWords d (words_of t)) (λ _. line) c.write_line_of_str.result) c.in-Some.ensures.text.0
    c.write_line_of_str.ensures)
