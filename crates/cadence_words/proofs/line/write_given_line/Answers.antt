use Rattle.std.proofs.Common.{◌∷◌}
use Rattle.cadence_words.specs.Asked.{AreHead}
use Rattle.cadence_words.specs.Lines.{IsLineOfGiven}
use Rattle.cadence_words.specs.TagWords.{tag_words}
use Rattle.cadence_words.proofs.WordByWord.{fails_on, head_asked, line_found}
use Rattle.cadence_words.proofs.line.write_given_line.Goals as goal

pub returns-in-Err : goal.returns-in-Err
returns-in-Err g c =
    fails_on (IsLineOfGiven c.args.defaults.now (c.args.kind.now ∷ c.args.name.now ∷ c.args.value.now ∷ tag_words c.args.tags))
    (λ h. AreHead c.args.kind.now c.args.name.now c.args.value.now h.0 h.1) c.in-Err.error
    (head_asked c.args.defaults.now c.args.name.now (tag_words c.args.tags) c.args.kind.now c.args.value.now) c.in-Err.ensures

pub returns : goal.returns
returns g c =
    line_found c.args.defaults.now c.args.name.now (tag_words c.args.tags) c.args.kind.now c.args.value.now _
    (λ _. c.write_said.new.buffer.items) c.write_said.result c.in-Ok.ensures c.write_said.ensures
