use Rattle.cadence_text.proofs.grammar.FreeTexts.{clear_tag, clear_tag_from, clear_tags, clear_tags_from}
use Rattle.cadence_text.proofs.grammar.FreeTexts.{field_if_any, field_if_any_from, free_if_any, free_if_any_from, free_text, free_text_from}
use Rattle.cadence_text.proofs.laws.clear_texts_pass.Goals as goal

pub returns : goal.returns
returns c = record {
  texts = λ text. (free_text text, free_text_from text);
  any = λ text. (free_if_any text, free_if_any_from text);
  tag = λ tag. (clear_tag tag, clear_tag_from tag);
  tags = λ tags. (clear_tags tags, clear_tags_from tags);
  field = λ text. (field_if_any text, field_if_any_from text);
}
