use Rattle.std.proofs.Common.{[], ◌∙◌, ap, ap₂, sym}
use Rattle.std.proofs.lemmas.Result.{IfOk-weaker}
use Rattle.cadence_settings.specs.Call.{metric_of_call, plain_call}
use Rattle.cadence_settings.proofs.calls.CallOptions.{draft_of_value}
use Rattle.cadence_text.specs.Draft.{Draft, draft_with}
use Rattle.cadence_text.specs.Metric.{Enrichment}
use Rattle.cadence_text.specs.TextValue.{value_kind, value_text}
use Rattle.cadence_host.proofs.line.RefTextValueLineValue.line_in_buffer.Goals as goal

pub returns : goal.returns
returns c =
    let call = c.args.call.now in
    let value = value_text c.args.self.now in
    IfOk-weaker c.finish_line.result _ _ (λ line shows s has. shows (metric_of_call s (plain_call call.kind c.args.key.now [])) value
    (c.set_enrichment.ensures
    ∙ ap₂ (λ (d : Draft) (e : Enrichment). record d { enrichment = e }) c.in-Ok.ensures (λ i. record { external = has.external i; cardinality = has.cardinality i })
    ∙ draft_of_value s (value_kind c.args.self.now) _ c.args.key.now value _ _ [] has.prefix has.tags has.container
    ∙ ap (λ k. draft_with value (metric_of_call s (plain_call k c.args.key.now []))) (sym c.requires.kind))) c.finish_line.ensures
