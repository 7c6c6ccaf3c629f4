use Rattle.std.proofs.Common.{rules, ◌≡◌, ◌∙◌}
use Rattle.cadence_value.proofs.spelling.OwnText.{own_text}
use Rattle.cadence_value.proofs.spelled.read_spelled.Goals as goal

pub returns-in-Some : goal.returns-in-Some
returns-in-Some c =
    let same : c.as_bytes-text.result.now ≡ c.args.text.now = search rules in
    let (good, shown) = c.in-Some.ensures in
    (good, own_text c.args.text.now c.in-Some.number good (shown ∙ same))
