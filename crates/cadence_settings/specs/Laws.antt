-- Laws that follow from the definitions. src/laws.rt has a function for each, whose contract is the law.
use Rattle.std.specs.Prelude.{◌≡◌, IsTrue}
use Rattle.cadence_text.specs.OneReading.{IsClear}
use Rattle.cadence_settings.specs.Call.{Choice, MetricCall, allows_call, chosen, metric_for, metric_of_call, with_choice}
use Rattle.cadence_settings.specs.Settings.{Settings, is_clear_settings}

-- Applying an option to the metric of a call gives the metric of the call with that option added.
abbrev pub OptionsAreChosen : Type 0
OptionsAreChosen =
    (settings : Settings) (call : MetricCall) (option : Choice)
    → chosen (metric_of_call settings call) option ≡ metric_of_call settings (with_choice call option)

-- If settings are strict and clear, the metric of each call that they allow is clear.
abbrev pub StrictCallsAreClear : Type 0
StrictCallsAreClear =
    (settings : Settings) (call : MetricCall) → IsTrue settings.strict → IsTrue (is_clear_settings settings)
    → IsTrue (allows_call settings call) → IsClear (metric_for settings call)

-- If settings that clean texts are clear, the metric of each call is clear.
abbrev pub CleanedCallsAreClear : Type 0
CleanedCallsAreClear =
    (settings : Settings) (call : MetricCall) → IsTrue settings.cleaned → IsTrue (is_clear_settings settings)
    → IsClear (metric_for settings call)
