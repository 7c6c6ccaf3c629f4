use Rattle.std.proofs.Common.{rules, ◌≡◌, ap, refl, Err}
use Rattle.std.specs.Prelude.{IfSome}
use Rattle.cadence_text.specs.Owned.{metric_of_owned}
use Rattle.cadence_read.specs.LineTexts.{LineTexts, line_texts, field_texts}
use Rattle.cadence_read.specs.Listed.{IsListed, IsText}
use Rattle.cadence_read.proofs.FieldsRead.{fails_on, hands_on}
use Rattle.cadence_read.proofs.LineParts.{container_listed, listed}
use Rattle.cadence_read.proofs.line.read_texts.Goals as goal

pub returns-in_err-container : goal.returns-in_err-container
returns-in_err-container g c =
    let texts = line_texts c.args.texts in
    let is : c.from_residual-in_err-container.result ≡ Err c.in_err-container.field-0.0 = search rules in
    hands_on IsListed field_texts texts metric_of_owned _ c.in_err-container.field-0.0 is
    (fails_on c.in_err-container.field-0.0 (λ container. IfSome container IsText) (λ container. container) texts.container
    IsListed field_texts texts (λ m good e. (m.container, container_listed m good, ap (λ (t : LineTexts). t.container) e))
    c.in_err-container.ensures)

pub returns : goal.returns
returns g c =
    (listed _ (search rules) (search rules) (search rules) (search rules) (search rules) (search rules) refl, search rules)
