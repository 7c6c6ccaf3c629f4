use Rattle.std.proofs.Common.{◌≡◌, take, true}
use Rattle.std.specs.List.{list_all}
use Rattle.cadence_text.specs.FreeTexts.{is_clear_tag}
use Rattle.cadence_host.specs.Calls.{c_tag}
use Rattle.cadence_host.proofs.call.are_clear_tags.Given as goal

-- The first tags are clear.
abbrev pub invariant-loop-tag : goal.invariant-loop-tag
invariant-loop-tag l = list_all (λ tag. is_clear_tag (c_tag tag)) (take l.tag-index l.tags) ≡ true
