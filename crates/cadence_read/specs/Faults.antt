-- Why no metrics were read.
use Rattle.cadence_errors.specs.declared.input_error.InputError.{InputError}
use Rattle.cadence_errors.specs.declared.input_error.InputError.TheVariants.{Unusable}
use Rattle.cadence_read.specs.declared.fault.NotMetrics.{NotMetrics}

-- The text is not that of any metrics, or memory ran out. In Rust code it is called `ReadFault`.
abbrev pub Fault : Type 0
Fault = InputError NotMetrics

-- the text is not that of any metrics
abbrev pub not_metrics : Fault
not_metrics = Unusable (record {})
