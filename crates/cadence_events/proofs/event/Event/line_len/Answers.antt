use Rattle.std.proofs.Common.{◌<◌, ◌^◌, [], List, None, false, length, map, subst, ℕ}
use Rattle.std.specs.Prelude.{SomeIff}
use Rattle.cadence_text.specs.Cleaned.{tag_as}
use Rattle.cadence_events.specs.Cleaned.{common_as, event_as}
use Rattle.cadence_events.specs.Fields.{tags_after}
use Rattle.cadence_events.specs.Lined.{Common, or_container}
use Rattle.cadence_events.specs.Event.{event_of, event_sharing, event_text}
use Rattle.cadence_events.proofs.CleanedTexts.{event_plain}
use Rattle.cadence_events.proofs.event.Event.line_len.Goals as goal

pub returns : goal.returns
returns c =
    let own = event_of c.args.self.now in
    let IsLength = λ (line : List ℕ). SomeIff c.length_of.result (length line < 2 ^ 64) (length line) in
    let measured = subst (λ (common : Common). IsLength (event_text (event_sharing (or_container None (common_as false common)) (event_as false own))
    (tags_after [] (map (tag_as false) common.tags)))) c.common.ensures c.length_of.ensures in
    subst IsLength (event_plain own) measured
