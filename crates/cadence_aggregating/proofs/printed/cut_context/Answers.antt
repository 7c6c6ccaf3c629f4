use Rattle.std.proofs.Common.{◌≢◌, sym}
use Rattle.std.proofs.lemmas.List.Elements.{recursion_from_All}
use Rattle.cadence_aggregating.proofs.Spliced.{field_cut}
use Rattle.cadence_aggregating.proofs.printed.cut_context.Goals as goal

pub returns-clause-name : goal.returns-clause-name
returns-clause-name c =
    let cut = c.cut_text_field in
    sym (field_cut c.args.context.now cut.result.0.now cut.result.1.now cut.ensures.whole (recursion_from_All (λ b. b ≢ 124) cut.result.0.now cut.ensures.front) cut.ensures.fields).0

pub returns-clause-fields : goal.returns-clause-fields
returns-clause-fields c =
    let cut = c.cut_text_field in
    sym (field_cut c.args.context.now cut.result.0.now cut.result.1.now cut.ensures.whole (recursion_from_All (λ b. b ≢ 124) cut.result.0.now cut.ensures.front) cut.ensures.fields).1
