use Rattle.std.proofs.Common.{◌≡◌, ◌∙◌, ◌++◌, None, ap, map, rules, string_bytes, subst, sym}
use Rattle.std.specs.Option.{option_copied, option_map}
use Rattle.cadence_text.specs.Owned.{tag_of_owned}
use Rattle.cadence_text.specs.Metric.{Metric}
use Rattle.cadence_text.specs.Record.{enrichment_of, tag_of}
use Rattle.cadence_value.specs.Values.{numbers_of}
use Rattle.cadence_settings.specs.Call.{metric_of_call, plain_call}
use Rattle.cadence_settings.specs.Settings.{Settings}
use Rattle.cadence_settings.specs.SettingsParts.{settings_seen}
use Rattle.cadence_settings.proofs.calls.CallOptions.{metric_of_plain}
use Rattle.cadence_settings.proofs.settings.ClientSettings.record_with.Goals as goal

pub returns : goal.returns
returns g c =
    let inside = c.self.inside in
    let key = c.args.key.now in
    let numbers = numbers_of c.args.value in
    let prefix : c.deref.result.now ≡ string_bytes inside.prefix = search rules in
    let tags : map tag_of c.in_ok-tags.tags.items ≡ map tag_of_owned inside.tags.items = c.in_ok-tags.ensures
    ∙ ap (λ (s : Settings). s.tags) (sym c.self.view_is) in
    let container : option_copied c.default_container-container.result ≡ option_map string_bytes inside.container = search rules in
    let enrichment : enrichment_of c.enrichment.result ≡ (settings_seen inside).enrichment = c.enrichment.ensures
    ∙ ap (λ (s : Settings). s.enrichment) (sym c.self.view_is) in
    let parts : c.set_enrichment.new.self ≡ record {
      name = string_bytes inside.prefix ++ key;
      numbers = numbers;
      kind = c.args.kind;
      rate = None;
      tags = map tag_of_owned inside.tags.items;
      container = option_map string_bytes inside.container;
      enrichment = (settings_seen inside).enrichment;
      time = None;
    } =
    c.set_enrichment.ensures
    ∙ ap (λ (m : Metric). record m { enrichment = enrichment_of c.enrichment.result }) c.with_defaults-record.ensures
    ∙ λ i. record {
      name = prefix i ++ key;
      numbers = numbers;
      kind = c.args.kind;
      rate = None;
      tags = tags i;
      container = container i;
      enrichment = enrichment i;
      time = None;
    } in
    subst (λ (s : Settings). c.set_enrichment.new.self ≡ metric_of_call s (plain_call c.args.kind key numbers)) c.self.view_is
    (parts ∙ metric_of_plain (settings_seen inside) c.args.kind key numbers)
