use Rattle.std.proofs.Common.{rules, arith, ◌≡◌, ◌∙◌, ap, map, length, ◌++◌, ◌∷◌, [], Some, None, Err}
use Rattle.std.specs.List.{All}
use Rattle.std.specs.Option.{option_copied}
use Rattle.cadence_text.specs.Line.{tag_text}
use Rattle.cadence_text.specs.Owned.{tag_of_owned}
use Rattle.cadence_read.specs.Listed.{IsListedTag}
use Rattle.cadence_read.specs.LineTexts.{pieces_left, tags_text}
use Rattle.cadence_read.proofs.FieldsRead.{fails_at, hands_on, tags_pieces, tags_found}
use Rattle.cadence_read.proofs.Pieces.{read_all, read_more}
use Rattle.cadence_read.proofs.fields.read_tags.Goals as goal

pub returns-in_err-tag : goal.returns-in_err-tag
returns-in_err-tag g c =
    let text = option_copied c.args.text in
    let left = option_copied c.loop-left.left in
    let some : option_copied c.loop-left.left ≡ Some c.in-Some.text.now = search rules in
    let is : c.from_residual-in_err-tag.result ≡ Err c.in_err-tag.field-0.0 = search rules in
    hands_on (All IsListedTag) tags_text text _ _ c.in_err-tag.field-0.0 is
    (fails_at c.in_err-tag.field-0.0 IsListedTag tag_text (map tag_text (map tag_of_owned c.loop-left.tags.items)) (pieces_left 44 left)
    (pieces_left 44 (option_copied c.split_piece.result.1)) (pieces_left 44 text) c.split_piece.result.0.now tags_text text
    c.loop-left.invariant.read (ap (pieces_left 44) some ∙ c.split_piece.ensures) (λ tags good e. tags_pieces tags text good e) c.in_err-tag.ensures)

pub loop-left-preserved : goal.loop-left-preserved
loop-left-preserved g c =
    let some : option_copied c.loop-left.left ≡ Some c.in-Some.text.now = search rules in
    let more : c.push.new.self.items ≡ c.loop-left.tags.items ++ c.in_ok-tag.tag ∷ [] = search rules in
    let (read, good) =
    read_more IsListedTag tag_text tag_of_owned c.loop-left.tags.items c.push.new.self.items c.in_ok-tag.tag
    c.split_piece.result.0.now (pieces_left 44 (option_copied c.split_piece.result.1)) (pieces_left 44 (option_copied c.args.text))
    (pieces_left 44 (option_copied c.loop-left.left))
    more c.loop-left.invariant.read (ap (pieces_left 44) some ∙ c.split_piece.ensures) c.loop-left.invariant.good c.in_ok-tag.ensures in
    record { read = read; good = good }

pub loop-left-smaller : goal.loop-left-smaller
loop-left-smaller g c =
    let some : option_copied c.loop-left.left ≡ Some c.in-Some.text.now = search rules in
    omega (arith, ap (λ o. length (pieces_left 44 o)) some, ap (λ ps. length ps) c.split_piece.ensures)

pub returns : goal.returns
returns g c =
    let none : option_copied c.loop-left.left ≡ None = search rules in
    let tags = map tag_of_owned c.loop-left.tags.items in
    let text = option_copied c.args.text in (
      c.loop-left.invariant.good,
      tags_found tags text (read_all (map tag_text tags) (pieces_left 44 text) 44
          (option_copied c.loop-left.left) none c.loop-left.invariant.read),
    )
