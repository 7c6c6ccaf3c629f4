-- What contracts see of the keys of calls that make no line.
use Rattle.std.specs.Prelude.{◌≡◌, ℕ, ℤ, List, [], ◌∷◌, string_bytes}
use Rattle.cadence_aggregate.specs.Server.{Sample, amount, level, member, timing, unclear, other}
use Rattle.cadence_settings.specs.Call.{MetricCall, metric_for}
use Rattle.cadence_settings.specs.Settings.{Settings}
use Rattle.cadence_text.specs.declared.line.MetricType.TheVariants.{Counter, Gauge}
use Rattle.cadence_text.specs.Line.{line_of}
use Rattle.cadence_value.specs.Number.{natural, number_text, whole}
use Rattle.cadence_aggregating.specs.Printed.{line_saying}
use Rattle.cadence_aggregating.specs.Says.{LineSays}
use Rattle.cadence_aggregating.specs.declared.keys.CounterKey.{CounterKey}
use Rattle.cadence_aggregating.specs.declared.keys.GaugeKey.{GaugeKey}
use Rattle.cadence_aggregating.specs.declared.keys.LineKey.{LineKey}
use Rattle.cadence_aggregating.specs.declared.keys.LineKey.TheVariants.{Raises, Sets}

-- the context of the lines of a counter
abbrev pub context_of_counter : CounterKey → List ℕ
context_of_counter key = string_bytes key.context

-- the context of the lines of a gauge
abbrev pub context_of_gauge : GaugeKey → List ℕ
context_of_gauge key = string_bytes key.context

-- the line that raises the counter by a number
abbrev pub line_of_counter : CounterKey → ℤ → List ℕ
line_of_counter key by = line_saying (amount (context_of_counter key) by)

-- the line that sets the gauge to a number
abbrev pub line_of_gauge : GaugeKey → ℕ → List ℕ
line_of_gauge key value = line_saying (level (context_of_gauge key) (number_text (natural value)))

-- Each line of the counter is the line that these settings make of this call with the number.
abbrev pub CountsFor : Settings → MetricCall → CounterKey → Type 0
CountsFor settings call key = (n : ℤ) → line_of_counter key n ≡ line_of (metric_for settings (record call { numbers = whole n ∷ [] }))

-- Each line of the gauge is the line that these settings make of this call with the value.
abbrev pub SetsFor : Settings → MetricCall → GaugeKey → Type 0
SetsFor settings call key = (n : ℕ) → line_of_gauge key n ≡ line_of (metric_for settings (record call { numbers = natural n ∷ [] }))

-- Each line of the key is the line that these settings make of this call with one other number.
abbrev pub IsKeyFor : Settings → MetricCall → LineKey → Type 0
IsKeyFor settings call (Raises key) = (call.kind ≡ Counter) × CountsFor settings call key
IsKeyFor settings call (Sets key) = (call.kind ≡ Gauge) × SetsFor settings call key

-- The line raises the counter of the key, or sets its gauge.
abbrev pub IsKeyOfLine : List ℕ → LineKey → Type 0
IsKeyOfLine line (Raises key) = (n : ℤ) × LineSays line (amount (context_of_counter key) n)
IsKeyOfLine line (Sets key) = (v : List ℕ) × LineSays line (level (context_of_gauge key) v)

-- This neither raises a counter by a whole number nor sets a gauge to a value of its own.
abbrev pub IsNeither : Sample → Type 0
IsNeither (amount c n) = ⊥
IsNeither (level c v) = ⊥
IsNeither (member l) = Unit {0}
IsNeither (timing c t) = Unit {0}
IsNeither (unclear l) = Unit {0}
IsNeither (other l) = Unit {0}

-- The line says neither of these.
abbrev pub SaysNeither : List ℕ → Type 0
SaysNeither line = (said : Sample) × LineSays line said × IsNeither said
