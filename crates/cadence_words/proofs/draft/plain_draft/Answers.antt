use Rattle.std.proofs.Common.{◌∙◌}
use Rattle.cadence_value.specs.Values.{numbers_of}
use Rattle.cadence_words.proofs.WordByWord.{plain_value}
use Rattle.cadence_words.proofs.draft.plain_draft.Goals as goal

pub returns-in-Ok : goal.returns-in-Ok
returns-in-Ok g c =
    rw c.in-Numbers.is (c.in-Ok.ensures.draft ∙ plain_value c.args.settings.now c.in-Numbers.kind c.args.name.now
    (numbers_of c.in-Numbers.numbers))
