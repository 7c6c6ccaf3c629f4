use Rattle.std.proofs.Common.{rules, ◌≡◌, ◌∷◌, ◌∙◌, Some, None, ap, string_bytes}
use Rattle.std.specs.Option.{option_copied}
use Rattle.cadence_read.specs.LineTexts.{pieces_left}
use Rattle.cadence_listen.specs.Filters.{pieces}
use Rattle.cadence_listen.proofs.Printed.{goes_on, is_all}
use Rattle.cadence_listen.proofs.watch.list_lines.Goals as goal

pub loop-left-preserved : goal.loop-left-preserved
loop-left-preserved c = λ json rest h.
    let some : option_copied c.loop-left.left ≡ Some c.in-Some.rest.now = search rules in
    let later = pieces_left 10 (option_copied c.split_piece.result.1) in
    let first : pieces_left 10 (option_copied c.loop-left.left) ≡ c.split_piece.result.0.now ∷ later =
    ap (pieces_left 10) some ∙ c.split_piece.ensures in
    let (row, printed, is) = c.in_ok-push_piece.ensures json in
    goes_on c.args.format.filter c.args.origin (pieces 10 c.args.lines.now) (pieces_left 10 (option_copied c.loop-left.left)) later
    c.split_piece.result.0.now (string_bytes c.loop-left.text) (string_bytes c.push_piece.new.out) row first is printed
    (c.loop-left.invariant json) rest h

pub returns : goal.returns
returns c = λ json.
    let none : option_copied c.loop-left.left ≡ None = search rules in
    is_all c.args.format.filter c.args.origin (pieces 10 c.args.lines.now) (pieces_left 10 (option_copied c.loop-left.left))
    (string_bytes c.loop-left.text) (ap (pieces_left 10) none) (c.loop-left.invariant json)
