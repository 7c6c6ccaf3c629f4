use Rattle.std.proofs.Common.{Ok, false, rules}
use Rattle.cadence_settings.specs.Call.{enriched}
use Rattle.cadence.specs.Sending.{AppliesOption}
use Rattle.cadence.specs.Shown.{backend_of, pending_of}
use Rattle.cadence.proofs.client.builder.MetricBuilder.with_cardinality.Goals as goal

pub returns-in-Ok-clause-call : goal.returns-in-Ok-clause-call
returns-in-Ok-clause-call g c =
    let applied : AppliesOption (g.C.MetricBackend.settings (backend_of c.args.self)) false (pending_of c.args.self) (enriched c.args.cardinality)
    (Ok c.set_cardinality.new.self) = search rules in
    c.choosing_stands_for_more.ensures _ _ _ _ _ applied
