use Rattle.std.proofs.Common.{rules, arith, ◌≡◌, ◌∙◌, ap, map, length, ◌++◌, ◌∷◌, [], Some, None, Err, ◌≢◌, ℕ}
use Rattle.std.specs.List.{All}
use Rattle.std.specs.Option.{option_copied}
use Rattle.cadence_text.specs.Line.{line_of}
use Rattle.cadence_text.specs.Owned.{metric_of_owned}
use Rattle.cadence_read.specs.Listed.{IsListed}
use Rattle.cadence_read.specs.LineTexts.{pieces_left}
use Rattle.cadence_read.proofs.FieldsRead.{fails_at, hands_on}
use Rattle.cadence_read.proofs.LineParts.{lacks_newline, line_named}
use Rattle.cadence_read.proofs.Pieces.{first_piece, named_front, next_named, pieces, read_all, read_more, refused_at}
use Rattle.cadence_read.proofs.packet.read_lines.Goals as goal

other : ◌≢◌ {A = ℕ} 58 10
other e = absurd (omega arith)

pub returns-in_default-split_first : goal.returns-in_default-split_first
returns-in_default-split_first g c = λ metrics is.
    let text = c.in-Some.text.now in
    let left = option_copied c.loop-left.left in
    let some : option_copied c.loop-left.left ≡ Some c.in-Some.text.now = search rules in
    let (piece, later, first) = first_piece 10 text in
    refused_at IsListed line_of metrics (map line_of (map metric_of_owned c.loop-left.metrics.items)) (pieces_left 10 left) later
    (pieces 10 c.args.lines.now) piece
    c.loop-left.invariant.read (ap (pieces_left 10) some ∙ first)
    (λ m has. c.in_default-split_first.ensures.none m.name _ has.0.free.name (named_front 10 text m.name _ later (first
    ∙ ap (λ p. p ∷ later) (line_named m piece has.0 has.1))))
    is.0 is.1

pub returns-in_err-metric : goal.returns-in_err-metric
returns-in_err-metric g c =
    let lines = pieces 10 c.args.lines.now in
    let left = option_copied c.loop-left.left in
    let name = c.in-Some-split_first.name.now in
    let some : option_copied c.loop-left.left ≡ Some c.in-Some.text.now = search rules in
    let next =
    next_named 10 left c.in-Some.text.now name c.in-Some-split_first.rest.now c.split_piece.result.0.now
    (pieces_left 10 (option_copied c.split_piece.result.1)) some c.in-Some-split_first.ensures.whole
    (lacks_newline name c.in-Some-split_first.ensures.front) other c.split_piece.ensures in
    let is : c.from_residual-in_err-metric.result ≡ Err c.in_err-metric.field-0.0 = search rules in
    hands_on (All IsListed) (map line_of) lines _ _ c.in_err-metric.field-0.0 is
    (fails_at c.in_err-metric.field-0.0 IsListed line_of (map line_of (map metric_of_owned c.loop-left.metrics.items)) (pieces_left 10 left)
    (pieces_left 10 (option_copied c.split_piece.result.1)) lines (name ++ 58 ∷ c.split_piece.result.0.now) (map line_of) lines
    c.loop-left.invariant.read next (λ metrics good e. e) c.in_err-metric.ensures)

pub loop-left-preserved : goal.loop-left-preserved
loop-left-preserved g c =
    let left = option_copied c.loop-left.left in
    let name = c.in-Some-split_first.name.now in
    let some : option_copied c.loop-left.left ≡ Some c.in-Some.text.now = search rules in
    let next =
    next_named 10 left c.in-Some.text.now name c.in-Some-split_first.rest.now c.split_piece.result.0.now
    (pieces_left 10 (option_copied c.split_piece.result.1)) some c.in-Some-split_first.ensures.whole
    (lacks_newline name c.in-Some-split_first.ensures.front) other c.split_piece.ensures in
    let more : c.push.new.self.items ≡ c.loop-left.metrics.items ++ c.in_ok-metric.metric ∷ [] = search rules in
    let (read, good) =
    read_more IsListed line_of metric_of_owned c.loop-left.metrics.items c.push.new.self.items c.in_ok-metric.metric
    (name ++ 58 ∷ c.split_piece.result.0.now) (pieces_left 10 (option_copied c.split_piece.result.1)) (pieces 10 c.args.lines.now)
    (pieces_left 10 left)
    more c.loop-left.invariant.read next c.loop-left.invariant.good c.in_ok-metric.ensures in
    record { read = read; good = good }

pub loop-left-smaller : goal.loop-left-smaller
loop-left-smaller g c =
    let left = option_copied c.loop-left.left in
    let name = c.in-Some-split_first.name.now in
    let some : option_copied c.loop-left.left ≡ Some c.in-Some.text.now = search rules in
    let next =
    next_named 10 left c.in-Some.text.now name c.in-Some-split_first.rest.now c.split_piece.result.0.now
    (pieces_left 10 (option_copied c.split_piece.result.1)) some c.in-Some-split_first.ensures.whole
    (lacks_newline name c.in-Some-split_first.ensures.front) other c.split_piece.ensures in
    omega (arith, ap (λ ps. length ps) next)

pub returns : goal.returns
returns g c =
    let none : option_copied c.loop-left.left ≡ None = search rules in
    let metrics = map metric_of_owned c.loop-left.metrics.items in (
      c.loop-left.invariant.good,
      read_all (map line_of metrics) (pieces 10 c.args.lines.now) 10 (option_copied c.loop-left.left) none
          c.loop-left.invariant.read,
    )
