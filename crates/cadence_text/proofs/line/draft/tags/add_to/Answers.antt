use Rattle.std.proofs.Common.{◌≡◌, ◌+◌, ◌≤◌, ◌∙◌, [], ◌++◌, ap, arith, length, rules, length-append, append_assoc, sym}
use Rattle.cadence_text.specs.Cleaned.{tag_as}
use Rattle.cadence_text.specs.Draft.{lead}
use Rattle.cadence_text.specs.Line.{tag_text}
use Rattle.cadence_text.specs.Record.{tag_of}
use Rattle.cadence_text.specs.PieceWriters.{text_up_to}
use Rattle.cadence_text.proofs.writing.CleanedPieces.{tag_in_memory, tag_length}
use Rattle.cadence_text.proofs.writing.DraftText.{lead_short, tag_utf8}
use Rattle.cadence_text.proofs.writing.LineLength.{said_tag}
use Rattle.cadence_text.proofs.writing.WriterEnds.{filled_more}
use Rattle.cadence_text.proofs.line.draft.tags.add_to.Goals as goal

pub returns-clause-ok : goal.returns-clause-ok
returns-clause-ok g c =
    let old = c.args.line.now.bytes.items in
    let before = lead c.args.begun in
    let text = tag_text (tag_as c.args.is_cleaned (tag_of c.args.tag.now)) in
    let (some, few) = lead_short c.args.begun in
    let whole : length (tag_text (tag_of c.args.tag.now)) + 2 ≤ c.in-Some.room = search rules in
    let room : length text + 2 ≤ c.in-Some.room = omega (arith, whole, tag_length c.args.is_cleaned (tag_of c.args.tag.now)) in
    let end : c.reserve.new.self.end ≡ length old + c.in-Some.room = search rules in
    filled_more c.reserve.new.self.end c.push_tag_as.new.line.end old c.reserve.new.self.bytes.items
    c.push_tag_as.new.line.bytes.items (before ++ text)
    (omega (arith, some, length-append before text)) (omega (arith, few, room, end, length-append before text)) c.reserve.ensures.text
    (c.push_tag_as.ensures.taken [] ∙ c.push_lead.ensures (text ++ [])
    ∙ ap (λ m. text_up_to c.reserve.new.self.end (c.reserve.new.self.bytes.items ++ m)) (sym (append_assoc before text [])))

pub returns-clause-utf8 : goal.returns-clause-utf8
returns-clause-utf8 g c =
    let tag = tag_of c.args.tag.now in
    tag_utf8 c.args.begun (tag_as c.args.is_cleaned tag) (tag_in_memory c.args.is_cleaned tag c.push_tag_as.ensures.sized)

pub returns-clause-representable : goal.returns-clause-representable
returns-clause-representable g c =
    let tag = tag_of c.args.tag.now in
    said_tag (tag_as c.args.is_cleaned tag) (tag_in_memory c.args.is_cleaned tag c.push_tag_as.ensures.sized)
