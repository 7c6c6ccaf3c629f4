use Rattle.std.proofs.Common.{◌≡◌, take}
use Rattle.std.specs.Prelude.{map}
use Rattle.std.specs.List.{fold}
use Rattle.cadence_settings.specs.Call.{chosen}
use Rattle.cadence_settings.specs.CallData.{choice_of}
use Rattle.cadence_settings.proofs.settings.record.set_all.Given as goal

abbrev pub invariant-loop-option : goal.invariant-loop-option
invariant-loop-option g l = l.metric ≡ fold chosen l.fn.metric (map choice_of (take l.option-index l.options))
