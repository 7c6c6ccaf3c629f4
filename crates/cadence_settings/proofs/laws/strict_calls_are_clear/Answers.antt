use Rattle.cadence_settings.proofs.calls.FreeTexts.{strict_call_clear}
use Rattle.cadence_settings.proofs.laws.strict_calls_are_clear.Goals as goal

pub returns : goal.returns
returns c = strict_call_clear c.cleaned_texts_are_clear.ensures c.clear_texts_pass.ensures
