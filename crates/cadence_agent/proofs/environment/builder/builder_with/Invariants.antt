use Rattle.std.proofs.Common.{◌≡◌, map, take}
use Rattle.cadence_errors.specs.Errors.{Makes}
use Rattle.cadence_text.specs.Owned.{tag_of_owned}
use Rattle.cadence_settings.specs.Settings.{settings_of}
use Rattle.cadence.specs.Shown.{settings_of_builder, sink_of_builder}
use Rattle.cadence_agent.specs.Shown.{with_tags}
use Rattle.cadence_agent.proofs.environment.builder.builder_with.Given as goal

abbrev pub invariant-loop-tag : goal.invariant-loop-tag
invariant-loop-tag g l =
    Makes (with_tags (settings_of l.fn.prefix) (map tag_of_owned (take l.tag-index l.tags))) (settings_of_builder l.builder)
    × (sink_of_builder l.builder ≡ l.fn.sink)
