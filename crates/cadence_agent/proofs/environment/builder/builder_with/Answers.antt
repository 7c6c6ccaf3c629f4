use Rattle.std.proofs.Common.{◌∙◌, refl}
use Rattle.cadence_text.specs.Owned.{tag_of_owned}
use Rattle.cadence_text.specs.Record.{tag_of}
use Rattle.cadence_settings.specs.Settings.{settings_of}
use Rattle.cadence_agent.proofs.DefaultTags.{makes_all, makes_next}
use Rattle.cadence_agent.proofs.environment.builder.builder_with.Goals as goal

pub loop-tag-preserved : goal.loop-tag-preserved
loop-tag-preserved g c =
    let added = c.with_default-builder.ensures in (
      makes_next tag_of_owned c.args.tags.now c.loop-tag.tag-index c.tag-item.result (tag_of c.lend_tag.result) (settings_of c.args.prefix.now) _ _
          c.loop-tag-test.true
          c.tag-item.is c.lend_tag.ensures refl refl c.loop-tag.invariant.0 added.settings,
      added.sink ∙ c.loop-tag.invariant.1,
    )

pub returns-clause-settings : goal.returns-clause-settings
returns-clause-settings g c =
    makes_all tag_of_owned c.args.tags.now c.loop-tag.tag-index (settings_of c.args.prefix.now) _ c.loop-tag-test.false c.loop-tag.invariant.0
