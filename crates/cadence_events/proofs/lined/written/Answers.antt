use Rattle.std.proofs.Common.{◌≡◌, [], length, rules}
use Rattle.std.specs.Prelude.{string_bytes}
use Rattle.cadence_text.proofs.writing.WriterEnds.{filled_whole}
use Rattle.std.specs.Option.{option_copied}
use Rattle.cadence_events.specs.Cleaned.{sent_common}
use Rattle.cadence_events.specs.Lined.{common_of, line_after}
use Rattle.cadence_events.proofs.lined.written.Goals as goal

pub returns : goal.returns
returns g c =
    let line = line_after (g.L.Lined.spelled c.args.is_cleaned c.args.source.now) c.args.tags.now
    (sent_common c.args.is_cleaned (option_copied c.args.container) (common_of c.args.common.now)) in
    let begun = c.in_ok-line.line in
    let ended = c.push_to.new.line in
    let end : begun.end ≡ length line = search rules in
    let filled : string_bytes ended.text ≡ line =
    filled_whole begun.end ended.end (string_bytes begun.text) (string_bytes ended.text) line c.push_to.ensures.some
    c.in_ok-line.ensures.empty end (c.push_to.ensures.taken []) in
    search rules
