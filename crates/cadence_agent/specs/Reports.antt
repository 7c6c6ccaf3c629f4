-- What contracts show of a reporting sink, whose fields are private, and the lines of its reports.
use Rattle.std.specs.Prelude.{ℕ, List, [], ◌∷◌}
use Rattle.cadence_text.specs.declared.line.MetricType.TheVariants as kind
use Rattle.cadence_text.specs.Line.{line_of}
use Rattle.cadence_value.specs.Number.{natural}
use Rattle.cadence_settings.specs.Call.{metric_for, plain_call}
use Rattle.cadence_settings.specs.Settings.{Settings}
use Rattle.cadence_queuing.specs.Queuing.{repeated_work}
use Rattle.cadence_agent.specs.Counts.{name_of}
use Rattle.cadence_agent.specs.declared.reporting.counts.Growth.{Growth}
use Rattle.cadence_agent.specs.declared.reporting.sink.ReportingMetricSink.{ReportingMetricSink}

-- the line that reports a growth: a counter with the name of the count, of a client with these settings
abbrev pub line_of_growth : Settings → Growth → List ℕ
line_of_growth settings growth =
    line_of (metric_for settings (plain_call kind.Counter (name_of growth.count) (natural growth.number ∷ [])))

-- the sink that a reporting sink wraps
abbrev pub reported_sink : {S R A : Type 0} → ReportingMetricSink S R A → S
reported_sink f = (repeated_work f.repeater).sink

-- the settings with which a reporting sink makes the lines of its reports
abbrev pub report_settings : {S R A : Type 0} → ReportingMetricSink S R A → Settings
report_settings f = (repeated_work f.repeater).settings
