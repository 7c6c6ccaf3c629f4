use Rattle.std.proofs.Common.{◌∙◌}
use Rattle.std.specs.Prelude.{string_bytes}
use Rattle.cadence_text.proofs.writing.DraftText.{line_of_metric}
use Rattle.cadence_text.proofs.line.draft.DraftLine.into_text.Goals as goal

pub returns-clause-metric : goal.returns-clause-metric
returns-clause-metric g c =
    line_of_metric c.args.self (string_bytes c.into_text.result) (c.into_text.ensures ∙ c.in_ok-finish.ensures)
