use Rattle.cadence_settings.proofs.calls.FreeTexts.{cleaned_call_clear}
use Rattle.cadence_settings.proofs.laws.cleaned_calls_are_clear.Goals as goal

pub returns : goal.returns
returns c = cleaned_call_clear c.cleaned_texts_are_clear.ensures c.clear_texts_pass.ensures
