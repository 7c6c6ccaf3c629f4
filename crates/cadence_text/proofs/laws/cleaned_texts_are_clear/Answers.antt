use Rattle.cadence_text.proofs.grammar.Cleaned.{tag_passes, tag_same, text_passes, text_same}
use Rattle.cadence_text.proofs.laws.cleaned_texts_are_clear.Goals as goal

pub returns : goal.returns
returns c = record { text = text_passes; same_text = text_same; tag = tag_passes; same_tag = tag_same }
