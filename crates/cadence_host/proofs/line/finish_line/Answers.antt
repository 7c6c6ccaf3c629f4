use Rattle.std.proofs.Common.{◌∙◌, Some, ap, cond}
use Rattle.std.proofs.lemmas.Result.{IfOk-weaker}
use Rattle.std.specs.Option.{option_or}
use Rattle.cadence_text.proofs.writing.DraftText.{line_of_draft_with}
use Rattle.cadence_text.specs.Cleaned.{text_as}
use Rattle.cadence_text.specs.Draft.{Draft, draft_line}
use Rattle.cadence_text.specs.Metric.{Metric}
use Rattle.cadence_host.specs.Calls.{with_c_cardinality, with_options}
use Rattle.cadence_host.proofs.line.finish_line.Goals as goal

pub returns : goal.returns
returns c =
    let o = c.args.options.now in
    let rate = c.args.rate in
    let chosen : Draft
    → Draft =
    λ d. record d {
      rate = option_or rate d.rate;
      container = cond o.contained (Some (text_as c.args.is_cleaned o.container.now)) d.container;
      enrichment = with_c_cardinality d.enrichment o.cardinality;
      time = cond
          o.timed (Some o.time) d.time;
    } in
    let without : Metric → Metric = λ m. record (with_options c.args.is_cleaned m o rate) { tags = m.tags } in
    IfOk-weaker c.into_bytes.result _ _ (λ line shows m value is. shows ∙ ap draft_line (c.in_ok-add_tags.ensures (without m) value (c.set_options.ensures
    ∙ ap chosen is)) ∙ line_of_draft_with value (with_options c.args.is_cleaned m o rate)) c.into_bytes.ensures.text
