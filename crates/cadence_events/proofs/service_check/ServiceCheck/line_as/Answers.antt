use Rattle.std.proofs.Common.{map, subst}
use Rattle.std.specs.Option.{option_copied}
use Rattle.cadence_text.specs.Cleaned.{tag_as}
use Rattle.cadence_events.specs.Cleaned.{common_as, sent_common, check_as}
use Rattle.cadence_events.specs.Fields.{tags_after}
use Rattle.cadence_events.specs.Lined.{Common}
use Rattle.cadence_events.specs.Refusals.{MakesLine, check_refusal}
use Rattle.cadence_events.specs.ServiceCheck.{check_of, check_sharing, check_text}
use Rattle.cadence_events.proofs.Defaults.{check_defaults}
use Rattle.cadence_events.proofs.service_check.ServiceCheck.line_as.Goals as goal

pub returns : goal.returns
returns g c =
    let cleans = c.args.is_cleaned in
    let own = check_of c.args.self.now in
    let sent = check_as cleans own in
    let tags = c.args.tags.now in
    let container = option_copied c.args.container in
    let made = subst (λ (common : Common). MakesLine (check_refusal (check_sharing (common_as cleans common) sent))
    (check_text (check_sharing (sent_common cleans container common) sent) (tags_after tags (map (tag_as cleans) common.tags)))
    c.line_with.result) c.common.ensures c.line_with.ensures.line in
    record {
      line = made;
      defaults = check_defaults sent tags container;
      fit = c.line_with.ensures.fit;
    }
