-- Calls that are kept as data: the kind of the metric, the numbers of the value, the metric and its line.
use Rattle.std.specs.Prelude.{◌≡◌, Bool, None, ℕ, if◌then◌else◌, Option, Some, List, [], ◌∷◌, map, string_bytes}
use Rattle.std.specs.Option.{option_map}
use Rattle.cadence_text.specs.declared.line.MetricType.{MetricType}
use Rattle.cadence_text.specs.declared.line.MetricType.TheVariants.{Counter, Timer, Gauge, Meter, Histogram, Set, Distribution}
use Rattle.cadence_text.specs.Line.{line_of}
use Rattle.cadence_text.specs.Metric.{Metric}
use Rattle.cadence_errors.specs.declared.MetricError.{MetricError}
use Rattle.cadence_errors.specs.Errors.{IsInvalid, out_of_memory}
use Rattle.cadence_value.specs.Number.{Number, whole, natural}
use Rattle.cadence_value.specs.Values.{millis_of, nanos_of, numbers_in_u64}
use Rattle.cadence_settings.specs.declared.call.Call.{Call}
use Rattle.cadence_settings.specs.declared.call.CallOption.{CallOption}
use Rattle.cadence_settings.specs.declared.call.CallOption.TheVariants.{Tag, TagValue, Container, Time, Rate}
use Rattle.cadence_settings.specs.declared.call.CallValue.{CallValue}
use Rattle.cadence_settings.specs.declared.call.CallValue.TheVariants.{CountI64, CountI32, CountU64, CountU32, TimeU64, TimeVecU64}
use Rattle.cadence_settings.specs.declared.call.CallValue.TheVariants.{TimeDuration, TimeVecDuration, GaugeU64, GaugeDecimal, MeterU64}
use Rattle.cadence_settings.specs.declared.call.CallValue.TheVariants.{HistogramU64, HistogramDecimal, HistogramDuration, HistogramVecU64}
use Rattle.cadence_settings.specs.declared.call.CallValue.TheVariants.{HistogramVecDecimal, HistogramVecDuration, DistributionU64}
use Rattle.cadence_settings.specs.declared.call.CallValue.TheVariants.{DistributionDecimal, DistributionVecU64, DistributionVecDecimal}
use Rattle.cadence_settings.specs.declared.call.CallValue.TheVariants.{SetI64}
use Rattle.cadence_settings.specs.Call.{Choice, choice_as, tagged, contained, timed, rated, MetricCall, metric_for, metric_of_call, allows_call}
use Rattle.cadence_settings.specs.Settings.{Settings}

-- the kind of metric that a value is for
abbrev pub kind_of_value : {Z : Type 0} → CallValue Z → MetricType
kind_of_value (CountI64 n) = Counter
kind_of_value (CountI32 n) = Counter
kind_of_value (CountU64 n) = Counter
kind_of_value (CountU32 n) = Counter
kind_of_value (TimeU64 n) = Timer
kind_of_value (TimeVecU64 ns) = Timer
kind_of_value (TimeDuration d) = Timer
kind_of_value (TimeVecDuration ds) = Timer
kind_of_value (GaugeU64 n) = Gauge
kind_of_value (GaugeDecimal d) = Gauge
kind_of_value (MeterU64 n) = Meter
kind_of_value (HistogramU64 n) = Histogram
kind_of_value (HistogramDecimal d) = Histogram
kind_of_value (HistogramDuration d) = Histogram
kind_of_value (HistogramVecU64 ns) = Histogram
kind_of_value (HistogramVecDecimal ds) = Histogram
kind_of_value (HistogramVecDuration ds) = Histogram
kind_of_value (DistributionU64 n) = Distribution
kind_of_value (DistributionDecimal d) = Distribution
kind_of_value (DistributionVecU64 ns) = Distribution
kind_of_value (DistributionVecDecimal ds) = Distribution
kind_of_value (SetI64 n) = Set

-- the numbers of a value, or none if a duration passes 64 bits in the unit of its kind: milliseconds for a timer,
-- nanoseconds for a histogram
abbrev pub numbers_of_value : {Z : Type 0} → CallValue Z → Option (List Number)
numbers_of_value (CountI64 n) = Some (whole n ∷ [])
numbers_of_value (CountI32 n) = Some (whole n ∷ [])
numbers_of_value (CountU64 n) = Some (natural n ∷ [])
numbers_of_value (CountU32 n) = Some (natural n ∷ [])
numbers_of_value (TimeU64 n) = Some (natural n ∷ [])
numbers_of_value (TimeVecU64 ns) = Some (map natural ns.items)
numbers_of_value (TimeDuration d) = numbers_in_u64 (millis_of d ∷ [])
numbers_of_value (TimeVecDuration ds) = numbers_in_u64 (map millis_of ds.items)
numbers_of_value (GaugeU64 n) = Some (natural n ∷ [])
numbers_of_value (GaugeDecimal d) = Some (d ∷ [])
numbers_of_value (MeterU64 n) = Some (natural n ∷ [])
numbers_of_value (HistogramU64 n) = Some (natural n ∷ [])
numbers_of_value (HistogramDecimal d) = Some (d ∷ [])
numbers_of_value (HistogramDuration d) = numbers_in_u64 (nanos_of d ∷ [])
numbers_of_value (HistogramVecU64 ns) = Some (map natural ns.items)
numbers_of_value (HistogramVecDecimal ds) = Some ds.items
numbers_of_value (HistogramVecDuration ds) = numbers_in_u64 (map nanos_of ds.items)
numbers_of_value (DistributionU64 n) = Some (natural n ∷ [])
numbers_of_value (DistributionDecimal d) = Some (d ∷ [])
numbers_of_value (DistributionVecU64 ns) = Some (map natural ns.items)
numbers_of_value (DistributionVecDecimal ds) = Some ds.items
numbers_of_value (SetI64 n) = Some (whole n ∷ [])

-- what an option of a call chooses
abbrev pub choice_of : {Z : Type 0} → CallOption Z → Choice
choice_of (Tag key text) = tagged (record { key = Some (string_bytes key); text = string_bytes text })
choice_of (TagValue text) = tagged (record { key = None; text = string_bytes text })
choice_of (Container text) = contained (string_bytes text)
choice_of (Time n) = timed n
choice_of (Rate r) = rated r

-- what an option of a call chooses in its line, which is cleaned if the flag is true
abbrev pub sent_choice : {Z : Type 0} → Bool → CallOption Z → Choice
sent_choice is_cleaned option = choice_as is_cleaned (choice_of option)

-- the call with these numbers in place of its value
abbrev pub call_of : {Z : Type 0} → Call Z → List Number → MetricCall
call_of c numbers = record { kind = kind_of_value c.value; key = string_bytes c.key; numbers = numbers; choices = map choice_of c.options.items }

-- the numbers of a call, or none if a duration of it passes 64 bits or the settings don't allow the call
abbrev pub numbers_of_data : {Z : Type 0} → Settings → Call Z → Option (List Number)
numbers_of_data s c = if allows_call s (call_of c []) then numbers_of_value c.value else None

-- the metric of a call, or none if a duration of it passes 64 bits or the settings don't allow the call
abbrev pub metric_of_data : {Z : Type 0} → Settings → Call Z → Option Metric
metric_of_data s c = option_map (λ ns. metric_for s (call_of c ns)) (numbers_of_data s c)

-- the metric of a call whose texts are not cleaned, or none as above
abbrev pub record_metric : {Z : Type 0} → Settings → Call Z → Option Metric
record_metric s c = option_map (λ ns. metric_of_call s (call_of c ns)) (numbers_of_data s c)

-- the line of a call, or none if a duration of it passes 64 bits or the settings don't allow the call
abbrev pub line_of_data : {Z : Type 0} → Settings → Call Z → Option (List ℕ)
line_of_data s c = option_map line_of (metric_of_data s c)

-- The error says why a call has no line to submit: a duration of it passes 64 bits, strict settings refuse a text of it, or
-- memory ran out.
abbrev pub LineFails : Option (List ℕ) → MetricError → Type 0
LineFails None e = IsInvalid e
LineFails (Some line) e = e ≡ out_of_memory
