use Rattle.std.proofs.Common.{take}
use Rattle.std.specs.Prelude.{map}
use Rattle.std.specs.List.{fold}
use Rattle.cadence_text.specs.Metric.{Metric}
use Rattle.cadence_settings.specs.Call.{IsDraftOf, chosen}
use Rattle.cadence_settings.specs.CallData.{sent_choice}
use Rattle.cadence_settings.proofs.call.choose_all.Given as goal

-- The draft has the first options.
abbrev pub invariant-loop-option : goal.invariant-loop-option
invariant-loop-option g l = (m : Metric) → IsDraftOf m l.fn.draft → IsDraftOf (fold chosen m (map (sent_choice l.is_cleaned) (take l.option-index l.options))) l.draft
