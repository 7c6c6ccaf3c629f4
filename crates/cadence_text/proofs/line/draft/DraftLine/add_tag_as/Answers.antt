use Rattle.std.proofs.Common.{◌++◌}
use Rattle.std.specs.Prelude.{nat_lt}
use Rattle.cadence_text.specs.Cleaned.{tag_as}
use Rattle.cadence_text.specs.Draft.{lead}
use Rattle.cadence_text.specs.Line.{tag_text}
use Rattle.cadence_text.specs.Record.{tag_of}
use Rattle.cadence_text.proofs.writing.DraftText.{cut_added}
use Rattle.cadence_text.proofs.line.draft.DraftLine.add_tag_as.Goals as goal

pub invariant_of-self : goal.invariant_of-self
invariant_of-self g c =
    let inside = c.self.inside in
    let more = lead (nat_lt inside.head c.len.result) ++ tag_text (tag_as c.args.is_cleaned (tag_of c.args.tag)) in
    cut_added inside.head inside.line.bytes.items c.add_to.new.line.bytes.items more c.add_to.result c.self.invariant c.add_to.ensures.ok
    c.add_to.ensures.utf8 c.add_to.ensures.err
