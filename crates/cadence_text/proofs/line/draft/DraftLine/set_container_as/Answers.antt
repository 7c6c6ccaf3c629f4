use Rattle.std.proofs.Common.{◌∙◌, List, Option, Some, ap}
use Rattle.cadence_text.specs.Cleaned.{text_as}
use Rattle.cadence_text.specs.Draft.{Draft}
use Rattle.cadence_text.specs.DraftParts.{draft_of_inside}
use Rattle.cadence_text.proofs.writing.CleanedPieces.{contained_as, text_as_utf8}
use Rattle.cadence_text.proofs.line.draft.DraftLine.set_container_as.Goals as goal

pub returns-clause-container : goal.returns-clause-container
returns-clause-container g c =
    let cleaned = c.args.is_cleaned in
    let text = c.args.container.now in
    ap (λ (k : Option (List _)). record (draft_of_inside c.self.inside) { container = k }) (contained_as cleaned text)
    ∙ ap (λ (d : Draft). record d { container = Some (text_as cleaned text) }) c.self.view_is

pub returns-clause-representable : goal.returns-clause-representable
returns-clause-representable g c = text_as_utf8 c.args.is_cleaned c.args.container.now c.utf8.container
