use Rattle.std.proofs.Common.{◌∙◌}
use Rattle.cadence_text.proofs.writing.DraftText.{line_of_metric}
use Rattle.cadence_text.proofs.line.draft.DraftLine.into_bytes.Goals as goal

pub returns-clause-metric : goal.returns-clause-metric
returns-clause-metric g c =
    line_of_metric c.args.self c.into_bytes.result.items (c.into_bytes.ensures ∙ c.in_ok-finish.ensures)
