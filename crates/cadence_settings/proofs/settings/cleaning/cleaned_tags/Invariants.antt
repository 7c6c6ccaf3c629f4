use Rattle.std.proofs.Common.{◌≡◌, take}
use Rattle.std.specs.Prelude.{map}
use Rattle.cadence_text.specs.Cleaned.{cleaned_tag}
use Rattle.cadence_text.specs.Line.{tags_field}
use Rattle.cadence_text.specs.Owned.{tag_of_owned}
use Rattle.cadence_settings.proofs.settings.cleaning.cleaned_tags.Given as goal

-- The first tags are cleaned.
abbrev pub invariant-loop-tag : goal.invariant-loop-tag
invariant-loop-tag g l = record {
  tags : map tag_of_owned l.made.items ≡ map cleaned_tag (map tag_of_owned (take l.tag-index l.tags));
  text : l.text ≡ tags_field (map tag_of_owned l.made.items);
}
