use Rattle.std.proofs.Common.{◌≡◌, ◌∙◌, ap, rules, string_bytes, subst, sym, true}
use Rattle.std.specs.Prelude.{filter}
use Rattle.std.proofs.Math.Utf8.{encodes}
use Rattle.std.proofs.lemmas.List.Elements.{filter_from_retain}
use Rattle.cadence_text.specs.FreeTexts.{is_field_text}
use Rattle.cadence_environment.specs.ExternalData.{stays}
use Rattle.cadence_environment.proofs.KeptTexts.{external_is_field, filter-encodes}
use Rattle.cadence_environment.proofs.external.read_external.Goals as goal

pub returns-clause-said : goal.returns-clause-said
returns-clause-said g c =
    let kept = c.retain.ensures.filtered in
    let copied : string_bytes c.in_ok-made.made ≡ c.args.text.now = search rules in
    let chosen : kept.kept ≡ filter stays kept.all =
    filter_from_retain _ stays (λ p x b q told. search rules) _ kept.all kept.kept kept.chosen in
    kept.stay ∙ ap encodes chosen ∙ sym (filter-encodes kept.all) ∙ ap (filter stays) (kept.spell ∙ copied)

pub returns-clause-field : goal.returns-clause-field
returns-clause-field g c =
    let said = returns-clause-said g c in subst (λ t. is_field_text t ≡ true) (sym said) (external_is_field c.args.text.now)
