use Rattle.cadence_c.proofs.Variables.{is_named}
use Rattle.cadence_c.proofs.enrichment.cadence_environment_external.Goals as goal

pub returns-in-Err-clause-refused : goal.returns-in-Err-clause-refused
returns-in-Err-clause-refused c bad v has =
    is_named c.in-Err.error v _ (c.refusal.ensures.named bad) (c.in-Err.ensures.refused v has)
