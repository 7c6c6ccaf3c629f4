use Rattle.std.proofs.Common.{◌≡◌, take, true}
use Rattle.std.specs.List.{list_all}
use Rattle.cadence_settings.specs.Call.{is_clear_choice}
use Rattle.cadence_settings.specs.CallData.{choice_of}
use Rattle.cadence_settings.proofs.call.Call.is_clear.Given as goal

-- the first options are clear
abbrev pub invariant-loop-option : goal.invariant-loop-option
invariant-loop-option g l = list_all (λ option. is_clear_choice (choice_of option)) (take l.option-index l.option-items) ≡ true
