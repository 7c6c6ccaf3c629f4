use Rattle.std.proofs.Common.{◌≡◌, ◌∙◌, ◌++◌, List, ap, ap₂, rules, string_bytes, subst, sym}
use Rattle.std.specs.Option.{option_copied, option_map}
use Rattle.std.specs.Prelude.{IsUtf8, map}
use Rattle.cadence_value.specs.Values.{numbers_of}
use Rattle.cadence_text.specs.Draft.{Draft, draft_of}
use Rattle.cadence_text.specs.Line.{tags_field}
use Rattle.cadence_text.specs.Metric.{Enrichment}
use Rattle.cadence_text.specs.Owned.{tag_of_owned}
use Rattle.cadence_text.specs.Record.{enrichment_of}
use Rattle.cadence_text.specs.Representable.{IsRepresentable}
use Rattle.cadence_settings.specs.Call.{metric_of_call, plain_call}
use Rattle.cadence_settings.specs.Settings.{Settings}
use Rattle.cadence_settings.specs.SettingsParts.{settings_seen}
use Rattle.cadence_settings.proofs.calls.CallOptions.{draft_of_call, said_plain}
use Rattle.cadence_settings.proofs.settings.ClientSettings.draft_with.Goals as goal

pub returns-clause-draft : goal.returns-clause-draft
returns-clause-draft g c =
    let inside = c.self.inside in
    let call = plain_call c.args.kind c.args.key.now (numbers_of c.args.value) in
    let prefix : c.deref.result.now ≡ string_bytes inside.prefix = search rules in
    let tags : c.as_str-tags.result.now ≡ tags_field (map tag_of_owned inside.tags.items) = search rules in
    let container : option_copied c.default_container.result ≡ option_map string_bytes inside.container = search rules in
    let enrichment : enrichment_of c.enrichment.result ≡ (settings_seen inside).enrichment = c.enrichment.ensures
    ∙ ap (λ (s : Settings). s.enrichment) (sym c.self.view_is) in
    let same =
    draft_of_call (settings_seen inside) c.args.kind c.deref.result.now c.args.key.now c.as_str-tags.result.now
    (option_copied c.default_container.result) (numbers_of c.args.value) prefix tags container in
    let made = c.set_enrichment.ensures
    ∙ ap₂ (λ (d : Draft) (e : Enrichment). record d { enrichment = e }) c.in_ok-draft.ensures.draft enrichment in
    subst (λ (s : Settings). c.set_enrichment.new.self ≡ draft_of (metric_of_call s call)) c.self.view_is (made ∙ same)

pub returns-clause-representable : goal.returns-clause-representable
returns-clause-representable g c =
    let inside = c.self.inside in
    let numbers = numbers_of c.args.value in
    let call = plain_call c.args.kind c.args.key.now numbers in
    let prefix : c.deref.result.now ≡ string_bytes inside.prefix = search rules in
    let head = c.in_ok-draft.ensures.representable in
    subst (λ (s : Settings). IsRepresentable (metric_of_call s call)) c.self.view_is
    (said_plain inside c.args.kind c.args.key.now numbers (subst (λ (p : List _). IsUtf8 (p ++ c.args.key.now)) prefix head.name) head.numbers)
