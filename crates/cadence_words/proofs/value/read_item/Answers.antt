use Rattle.std.proofs.Common.{rules, ◌≡◌, subst}
use Rattle.cadence_words.specs.Duration.{IsDurationWord}
use Rattle.cadence_value.specs.Finds.{Finds}
use Rattle.cadence_words.proofs.WordByWord.{neither}
use Rattle.cadence_words.proofs.value.read_item.Goals as goal

pub returns-in-None : goal.returns-in-None
returns-in-None c =
    let same : c.as_bytes.result.now ≡ c.args.word.now = search rules in
    neither c.args.kind c.args.word.now c.read_duration.result c.in-None.ensures
    (subst (λ w. Finds (IsDurationWord c.args.kind w) c.read_duration.result) same c.read_duration.ensures)
