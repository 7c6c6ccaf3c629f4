use Rattle.std.proofs.Common.{map}
use Rattle.cadence_text.specs.Cleaned.{tag_as}
use Rattle.cadence_events.specs.Lined.{common_of}
use Rattle.cadence_events.proofs.Defaults.{tags_known}
use Rattle.cadence_events.proofs.lined.line_with.Goals as goal

pub returns-in-Some-clause-defaults : goal.returns-in-Some-clause-defaults
returns-in-Some-clause-defaults g c = tags_known c.args.tags.now (map (tag_as c.args.is_cleaned) (common_of c.args.common.now).tags)

pub returns-in_err-written-clause-defaults : goal.returns-in_err-written-clause-defaults
returns-in_err-written-clause-defaults g c = tags_known c.args.tags.now (map (tag_as c.args.is_cleaned) (common_of c.args.common.now).tags)

pub returns-clause-defaults : goal.returns-clause-defaults
returns-clause-defaults g c = tags_known c.args.tags.now (map (tag_as c.args.is_cleaned) (common_of c.args.common.now).tags)
