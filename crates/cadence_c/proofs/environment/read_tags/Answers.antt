use Rattle.std.proofs.Common.{◌∙◌, sym}
use Rattle.std.proofs.lemmas.Result.{IfOk-weaker}
use Rattle.cadence_c.proofs.Variables.{same_tags}
use Rattle.cadence_c.proofs.environment.read_tags.Goals as goal

pub returns-clause-tags : goal.returns-clause-tags
returns-clause-tags c =
    let read = c.in_ok-variables.ensures.read in
    IfOk-weaker c.from_variables.result _ _ (λ e says v has. says ∙ same_tags c.in_ok-variables.variables v (read.env ∙ sym has.env) (read.service ∙ sym has.service)
    (read.version ∙ sym has.version) (read.tags ∙ sym has.tags) (read.entity_id ∙ sym has.entity_id)) c.from_variables.ensures.tags
