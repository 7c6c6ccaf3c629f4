use Rattle.std.proofs.Common.{subst, sym}
use Rattle.cadence_environment.specs.Cardinalities.{SaysCardinality, first_set}
use Rattle.cadence_c.proofs.Variables.{is_named}
use Rattle.cadence_c.proofs.enrichment.cadence_environment_cardinality.Goals as goal

pub returns-in-Ok-clause-said : goal.returns-in-Ok-clause-said
returns-in-Ok-clause-said c done v has =
    subst (SaysCardinality (first_set v.cardinality.now v.datadog_cardinality.now)) (sym c.number_of.ensures.named) (c.in-Ok.ensures.said v has)

pub returns-in-Err-clause-refused : goal.returns-in-Err-clause-refused
returns-in-Err-clause-refused c bad v has =
    is_named c.in-Err.error v _ (c.refusal.ensures.named bad) (c.in-Err.ensures.refused v has)
