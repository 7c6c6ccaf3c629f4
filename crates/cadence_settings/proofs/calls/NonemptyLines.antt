-- The line of a call is never empty.
use Rattle.std.proofs.Common.{◌≡◌, ◌≢◌, ℕ, ◌<◌, List, [], Option, Some, None, length, ap, arith}
use Rattle.std.specs.Option.{option_map}
use Rattle.cadence_text.specs.Line.{line_of}
use Rattle.cadence_text.specs.Metric.{Metric}
use Rattle.cadence_settings.specs.declared.call.Call.{Call}
use Rattle.cadence_settings.specs.CallData.{line_of_data, metric_of_data}
use Rattle.cadence_settings.specs.Settings.{Settings}

module _ (law : (metric : Metric) → 0 < length (line_of metric)) where
  by_metric : (m : Option Metric) (line : List ℕ) → option_map line_of m ≡ Some line → line ≢ []
  by_metric None line e none = absurd cc
  by_metric (Some m) line e none =
      let same : line_of m ≡ line = cc in
      absurd (omega (arith, law m, ap (λ l. length l) same, ap (λ l. length l) none))

  pub line_filled : {Z : Type 0} (settings : Settings) (c : Call Z) (line : List ℕ) → line_of_data settings c ≡ Some line → line ≢ []
  line_filled settings c line e = by_metric (metric_of_data settings c) line e
