use Rattle.std.proofs.Common.{map, subst}
use Rattle.std.specs.Option.{option_copied}
use Rattle.cadence_text.specs.Cleaned.{tag_as}
use Rattle.cadence_events.specs.Cleaned.{common_as, sent_common, event_as}
use Rattle.cadence_events.specs.Fields.{tags_after}
use Rattle.cadence_events.specs.Lined.{Common}
use Rattle.cadence_events.specs.Refusals.{MakesLine, event_refusal}
use Rattle.cadence_events.specs.Event.{event_of, event_sharing, event_text}
use Rattle.cadence_events.proofs.Defaults.{event_defaults}
use Rattle.cadence_events.proofs.event.Event.line_as.Goals as goal

pub returns : goal.returns
returns g c =
    let cleans = c.args.is_cleaned in
    let own = event_of c.args.self.now in
    let sent = event_as cleans own in
    let tags = c.args.tags.now in
    let container = option_copied c.args.container in
    let made = subst (λ (common : Common). MakesLine (event_refusal (event_sharing (common_as cleans common) sent))
    (event_text (event_sharing (sent_common cleans container common) sent) (tags_after tags (map (tag_as cleans) common.tags)))
    c.line_with.result) c.common.ensures c.line_with.ensures.line in
    record {
      line = made;
      defaults = event_defaults sent tags container;
      fit = c.line_with.ensures.fit;
    }
