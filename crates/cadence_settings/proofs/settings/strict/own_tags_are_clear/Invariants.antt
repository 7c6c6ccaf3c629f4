use Rattle.std.proofs.Common.{◌≡◌, take, true}
use Rattle.std.specs.List.{list_all}
use Rattle.cadence_text.specs.Owned.{tag_of_owned}
use Rattle.cadence_text.specs.FreeTexts.{is_clear_tag}
use Rattle.cadence_settings.proofs.settings.strict.own_tags_are_clear.Given as goal

-- the first tags are clear
abbrev pub invariant-loop-owned : goal.invariant-loop-owned
invariant-loop-owned g l = list_all (λ tag. is_clear_tag (tag_of_owned tag)) (take l.owned-index l.tags) ≡ true
