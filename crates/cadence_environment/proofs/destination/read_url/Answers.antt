use Rattle.cadence_environment.proofs.destination.read_url.Goals as goal

pub returns-in_default-strip_prefix-clause-paths : goal.returns-in_default-strip_prefix-clause-paths
returns-in_default-strip_prefix-clause-paths g c path says = c.in_default.ensures.none path says.0
