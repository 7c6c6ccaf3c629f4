-- What contracts see of a client whose calls make no line.
use Rattle.std.specs.Prelude.{◌≡◌, Result, Ok, Err}
use Rattle.cadence_errors.specs.declared.MetricError.{MetricError}
use Rattle.cadence_errors.specs.declared.MetricError.TheVariants.{Sink}
use Rattle.cadence_errors.specs.declared.SinkError.{SinkError}
use Rattle.cadence_stage.specs.Answered.{IsFlushAnswered}
use Rattle.cadence_settings.specs.Settings.{Settings}
use Rattle.cadence_aggregating.specs.declared.client.AggregatedClient.{AggregatedClient}

-- the prefix and the defaults of a client
abbrev pub settings_of_aggregated : {S R H : Type 0} → AggregatedClient S R H → Settings
settings_of_aggregated c = c.settings.settings

-- The result of a flush is what the sink of the client answered.
abbrev pub IsFlushOfClient : Result (Unit {0}) MetricError → Type 0
IsFlushOfClient (Ok done) = IsFlushAnswered (Ok tt)
IsFlushOfClient (Err e) = (fault : SinkError) × (e ≡ Sink fault) × IsFlushAnswered (Err fault)
