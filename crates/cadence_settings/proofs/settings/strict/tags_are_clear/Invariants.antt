use Rattle.std.proofs.Common.{◌≡◌, take, true}
use Rattle.std.specs.List.{list_all}
use Rattle.cadence_text.specs.FreeTexts.{is_clear_tag}
use Rattle.cadence_text.specs.Record.{tag_of}
use Rattle.cadence_settings.proofs.settings.strict.tags_are_clear.Given as goal

-- the first tags are clear
abbrev pub invariant-loop-tag : goal.invariant-loop-tag
invariant-loop-tag l = list_all (λ tag. is_clear_tag (tag_of tag)) (take l.tag-index l.tags) ≡ true
