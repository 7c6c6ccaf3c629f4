use Rattle.std.proofs.Common.{◌≡◌, ◌+◌, ◌≤◌, ◌<◌, ◌∙◌, [], ◌++◌, ap, arith, length, sym}
use Rattle.std.specs.Option.{option_copied}
use Rattle.cadence_text.specs.DraftParts.{plain_draft}
use Rattle.cadence_text.specs.PieceWriters.{text_up_to}
use Rattle.cadence_text.specs.TextValue.{text_head, value_kind, value_text}
use Rattle.cadence_text.proofs.writing.LineLength.{head_with_some}
use Rattle.cadence_text.proofs.writing.WriterEnds.{filled_more, room_left}
use Rattle.cadence_text.proofs.line.draft.text.written_text.Goals as goal

pub with_tags-requires-clause-first : goal.with_tags-requires-clause-first
with_tags-requires-clause-first g c =
    let head = text_head c.args.prefix.now c.args.key.now c.args.value.now in
    let tags = c.args.tags.now in
    let begun = c.args.line in
    let some : 0 < length head = head_with_some (c.args.prefix.now ++ c.args.key.now) (value_text c.args.value.now) (value_kind c.args.value.now) in
    let first : c.args.first ≡ length head = c.requires.first in
    let room : length head + length tags ≤ begun.end = omega (arith, first, c.requires.room) in
    let middle : c.push_text_head.new.line.bytes.items ≡ head =
    filled_more begun.end c.push_text_head.new.line.end [] begun.bytes.items c.push_text_head.new.line.bytes.items head (omega (arith, some))
    (omega (arith, room)) c.requires.empty (c.push_text_head.ensures.taken []) in
    c.requires.first ∙ ap (λ t. length t) (sym middle)

pub with_tags-requires-clause-some : goal.with_tags-requires-clause-some
with_tags-requires-clause-some g c =
    let head = text_head c.args.prefix.now c.args.key.now c.args.value.now in
    let some : 0 < length head = head_with_some (c.args.prefix.now ++ c.args.key.now) (value_text c.args.value.now) (value_kind c.args.value.now) in
    omega (arith, c.requires.first, some)

pub with_tags-requires-clause-room : goal.with_tags-requires-clause-room
with_tags-requires-clause-room g c =
    let head = text_head c.args.prefix.now c.args.key.now c.args.value.now in
    let tags = c.args.tags.now in
    let begun = c.args.line in
    let some : 0 < length head = head_with_some (c.args.prefix.now ++ c.args.key.now) (value_text c.args.value.now) (value_kind c.args.value.now) in
    let first : c.args.first ≡ length head = c.requires.first in
    let room : length head + length tags ≤ begun.end = omega (arith, first, c.requires.room) in
    let middle : c.push_text_head.new.line.bytes.items ≡ head =
    filled_more begun.end c.push_text_head.new.line.end [] begun.bytes.items c.push_text_head.new.line.bytes.items head (omega (arith, some))
    (omega (arith, room)) c.requires.empty (c.push_text_head.ensures.taken []) in
    let left =
    room_left begun.end c.push_text_head.new.line.end c.push_text_head.new.line.bytes.items head tags (omega (arith, some)) room
    (c.push_text_head.ensures.taken (tags ++ []) ∙ ap (λ m. text_up_to begun.end (m ++ (head ++ (tags ++ [])))) c.requires.empty) in
    omega (arith, left, first, ap (λ t. length t) middle)

pub returns : goal.returns
returns g c =
    let head = text_head c.args.prefix.now c.args.key.now c.args.value.now in
    let tags = c.args.tags.now in
    let begun = c.args.line in
    let some : 0 < length head = head_with_some (c.args.prefix.now ++ c.args.key.now) (value_text c.args.value.now) (value_kind c.args.value.now) in
    let first : c.args.first ≡ length head = c.requires.first in
    let room : length head + length tags ≤ begun.end = omega (arith, first, c.requires.room) in
    let middle : c.push_text_head.new.line.bytes.items ≡ head =
    filled_more begun.end c.push_text_head.new.line.end [] begun.bytes.items c.push_text_head.new.line.bytes.items head (omega (arith, some))
    (omega (arith, room)) c.requires.empty (c.push_text_head.ensures.taken []) in
    c.with_tags.ensures ∙ ap (λ h. plain_draft h tags (option_copied c.args.container)) middle
