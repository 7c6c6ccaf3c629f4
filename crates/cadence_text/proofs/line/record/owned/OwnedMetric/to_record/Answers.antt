use Rattle.std.proofs.Common.{rules, ◌≡◌, ap, ◌∙◌, map}
use Rattle.std.specs.Option.{option_copied, option_map}
use Rattle.std.specs.String.{string_bytes}
use Rattle.cadence_text.specs.Metric.{no_enrichment}
use Rattle.cadence_text.specs.Owned.{tag_of_owned}
use Rattle.cadence_text.specs.Record.{tag_of}
use Rattle.cadence_text.proofs.line.record.owned.OwnedMetric.to_record.Goals as goal

pub returns : goal.returns
returns g c =
    let owned = c.args.self.now in
    let numbers : c.in_ok-numbers.numbers.items ≡ owned.numbers.items = c.in_ok-numbers.ensures.items ∙ c.deref.ensures.value in
    let tags : map tag_of c.in_ok-tags.tags.items ≡ map tag_of_owned owned.tags.items = c.in_ok-tags.ensures
    ∙ ap (map tag_of_owned) c.deref-2.ensures.value in
    let rate : c.map.result ≡ owned.rate = search rules in
    let container : option_copied c.map-2.result ≡ option_map string_bytes owned.container = search rules in
    λ i. record {
      name = c.deref-3.ensures i;
      numbers = numbers i;
      kind = owned.kind;
      rate = rate i;
      tags = tags i;
      container = container i;
      enrichment = no_enrichment;
      time = owned.time;
    }
