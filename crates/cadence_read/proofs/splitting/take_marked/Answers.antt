use Rattle.std.proofs.Common.{rules, ◌≡◌, ◌∷◌, ◌++◌, ap, ◌∙◌, sym, refl, Some}
use Rattle.std.specs.List.{join_with_byte}
use Rattle.std.specs.Option.{option_copied}
use Rattle.cadence_read.specs.LineTexts.{pieces_left}
use Rattle.cadence_read.proofs.LineParts.{marked_found, marked_none}
use Rattle.cadence_read.proofs.Pieces.{pieces, pieces-marked, marked_front}
use Rattle.cadence_read.proofs.splitting.take_marked.Goals as goal

pub returns-in_default-strip_prefix : goal.returns-in_default-strip_prefix
returns-in_default-strip_prefix c =
    let line = c.in-Some.text.now in
    let some : option_copied c.args.left ≡ Some line = search rules in (
      refl,
      λ text more e.
          let cut : pieces 124 line ≡ (c.args.mark.now ++ text) ∷ more = sym (ap (pieces_left 124) some) ∙ e in
          marked_none line c.args.mark.now (join_with_byte 124 (text ∷ more)) c.in_default-strip_prefix.ensures.cases
          (marked_front 124 line c.args.mark.now text more cut),
    )

pub returns : goal.returns
returns c =
    let line = c.in-Some.text.now in
    let marked = c.in-Some-strip_prefix.marked.now in
    let some : option_copied c.args.left ≡ Some line = search rules in
    let (same, text, count) = c.in-Some-strip_prefix.ensures.cases in
    ap (pieces_left 124) some ∙ ap (pieces 124) (marked_found line marked c.args.mark.now same text)
    ∙ pieces-marked 124 c.args.mark.now marked c.split_piece.result.0.now (pieces_left 124 (option_copied c.split_piece.result.1)) c.requires
    c.split_piece.ensures
