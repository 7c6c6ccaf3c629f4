use Rattle.std.proofs.Common.{rules, arith, ◌≡◌, ◌<◌, ◌∙◌, sym, ap, map, length, ◌++◌, ◌∷◌, [], Some, None}
use Rattle.std.specs.Option.{option_copied}
use Rattle.std.proofs.lemmas.List.{map-id}
use Rattle.cadence_value.specs.Number.{Number, number_text, IsDecimal}
use Rattle.cadence_read.specs.LineTexts.{pieces_left}
use Rattle.cadence_read.proofs.FieldsRead.{numbers_pieces, numbers_found}
use Rattle.cadence_read.proofs.Pieces.{pieces, read_all, read_more, refused_at}
use Rattle.cadence_read.proofs.fields.read_numbers.Goals as goal

pub returns-in_default-read_number : goal.returns-in_default-read_number
returns-in_default-read_number g c = λ ns is.
    let text = c.args.text.now in
    let left = option_copied c.loop-left.left in
    let some : option_copied c.loop-left.left ≡ Some c.in-Some.text.now = search rules in
    let filled : 0 < length c.args.text.now = grind arith in
    refused_at IsDecimal number_text ns (map number_text (map (λ (n : Number). n) c.loop-left.numbers.items)) (pieces_left 58 left)
    (pieces_left 58 (option_copied c.split_piece.result.1)) (pieces 58 text) c.split_piece.result.0.now
    c.loop-left.invariant.read (ap (pieces_left 58) some
    ∙ c.split_piece.ensures) c.in_default-read_number.ensures is.0 (numbers_pieces ns text filled is.1)

pub loop-left-preserved : goal.loop-left-preserved
loop-left-preserved g c =
    let some : option_copied c.loop-left.left ≡ Some c.in-Some.text.now = search rules in
    let more : c.push.new.self.items ≡ c.loop-left.numbers.items ++ c.in-Some-read_number.number ∷ [] = search rules in
    let (read, good) =
    read_more IsDecimal number_text (λ (n : Number). n) c.loop-left.numbers.items c.push.new.self.items c.in-Some-read_number.number
    c.split_piece.result.0.now (pieces_left 58 (option_copied c.split_piece.result.1)) (pieces 58 c.args.text.now)
    (pieces_left 58 (option_copied c.loop-left.left))
    more c.loop-left.invariant.read (ap (pieces_left 58) some ∙ c.split_piece.ensures) c.loop-left.invariant.good c.in-Some-read_number.ensures in
    record { read = read; good = good }

pub loop-left-smaller : goal.loop-left-smaller
loop-left-smaller g c =
    let some : option_copied c.loop-left.left ≡ Some c.in-Some.text.now = search rules in
    omega (arith, ap (λ o. length (pieces_left 58 o)) some, ap (λ ps. length ps) c.split_piece.ensures)

pub returns : goal.returns
returns g c =
    let none : option_copied c.loop-left.left ≡ None = search rules in
    let items = c.loop-left.numbers.items in
    let whole =
    read_all (map number_text (map (λ (n : Number). n) items)) (pieces 58 c.args.text.now) 58 (option_copied c.loop-left.left) none
    c.loop-left.invariant.read in
    search (rules, map-id items, c.loop-left.invariant.good, numbers_found items c.args.text.now (ap (map number_text) (sym (map-id items)) ∙ whole))
