use Rattle.std.proofs.Common.{subst, sym}
use Rattle.cadence_words.specs.Finds.{FindsOrFails}
use Rattle.cadence_words.specs.Lines.{IsLineOfWords}
use Rattle.cadence_words.proofs.WordByWord.{three_words}
use Rattle.cadence_words.proofs.line.write_line_of_words.Goals as goal

pub returns : goal.returns
returns g c =
    subst (λ ws. FindsOrFails (IsLineOfWords c.args.defaults.now ws) (λ _. c.write_line.new.buffer.items) c.write_line.result)
    (sym (three_words c.args.words.now _ _ _ c.in-len3-up.len_at_least)) c.write_line.ensures
