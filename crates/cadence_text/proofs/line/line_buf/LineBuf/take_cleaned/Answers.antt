use Rattle.std.proofs.Common.{◌≡◌, ◌∙◌, ◌<◌, ◌++◌, ◌+◌, ap, ap₂, map, append_assoc, arith, length, rules}
use Rattle.cadence_text.specs.Cleaned.{cleaned_byte, cleaned_text}
use Rattle.cadence_text.specs.PieceWriters.{text_up_to}
use Rattle.cadence_text.proofs.grammar.Cleaned.{cleaned_length}
use Rattle.cadence_text.proofs.writing.WriterEnds.{cleaned_end, cleaned_end_utf8, given_up, utf8_more}
use Rattle.cadence_text.proofs.line.line_buf.LineBuf.take_cleaned.Goals as goal

pub returns-then-piece-capacity-clause-taken : goal.returns-then-piece-capacity-clause-taken
returns-then-piece-capacity-clause-taken g c =
    let line = c.args.self.now in
    let text = cleaned_text c.args.after_key c.args.piece.now in
    let over : line.end < length line.bytes.items + length c.args.piece.now = search rules in
    let long : line.end < length line.bytes.items + length text = omega (arith, over, cleaned_length c.args.after_key c.args.piece.now) in
    λ rest. given_up line.end line.bytes.items text c.give_up.new.self.bytes.items rest c.give_up.new.self.end long c.give_up.ensures.bytes c.give_up.ensures.end

pub clean_after-requires-clause-utf8 : goal.clean_after-requires-clause-utf8
clean_after-requires-clause-utf8 g c =
    let old = c.args.self.now.bytes.items in
    let more = c.as_bytes.result.now in
    let new = c.extend_from_slice.new.self.items in
    let items : new ≡ old ++ more = search rules in
    let start : c.len-start.result ≡ length old = search rules in
    cleaned_end_utf8 c.args.after_key c.len-start.result old more new start items c.args.self.now.utf8 c.as_bytes.ensures.utf8

pub invariant_of-self : goal.invariant_of-self
invariant_of-self g c =
    let old = c.args.self.now.bytes.items in
    let more = c.as_bytes.result.now in
    let new = c.extend_from_slice.new.self.items in
    let items : new ≡ old ++ more = search rules in
    record { utf8 = utf8_more old more new c.args.self.now.utf8 c.as_bytes.ensures.utf8 items; within = search rules }

pub returns-clause-taken : goal.returns-clause-taken
unfolding cleaned_text
returns-clause-taken g c =
    let old = c.args.self.now.bytes.items in
    let more = c.as_bytes.result.now in
    let new = c.extend_from_slice.new.self.items in
    let items : new ≡ old ++ more = search rules in
    let start : c.len-start.result ≡ length old = search rules in
    let piece : more ≡ c.args.piece.now = search rules in
    let clean = map (cleaned_byte c.args.after_key) in
    let whole : c.clean_after.new.self.bytes.items ≡ old ++ clean c.args.piece.now =
    c.clean_after.ensures.bytes ∙ cleaned_end c.args.after_key c.len-start.result old more new start items ∙ ap (λ t. old ++ clean t) piece in
    λ rest. ap₂ (λ n t. text_up_to n (t ++ rest)) c.clean_after.ensures.end whole ∙ ap (text_up_to c.args.self.now.end) (append_assoc old (clean c.args.piece.now) rest)
