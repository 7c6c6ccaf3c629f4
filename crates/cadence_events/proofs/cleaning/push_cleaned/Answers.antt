use Rattle.std.proofs.Common.{◌≡◌, ◌∙◌, ◌++◌, ◌∷◌, ap, append_assoc, rules, sym}
use Rattle.cadence_text.specs.Cleaned.{cleaned_byte, cleaned_text}
use Rattle.cadence_events.proofs.CleanedTexts.{cleaned_cut, cleaned_plain}
use Rattle.cadence_events.proofs.cleaning.push_cleaned.Goals as goal

pub loop-front-preserved : goal.loop-front-preserved
loop-front-preserved g c =
    let ends = g.S.ByteWriter.ends_as c.loop-front.line in
    let key = c.args.after_key in
    let left = c.loop-front.left.now in
    let front = c.in-Some.front.now in
    let mark = c.in-Some.separator in
    let rest = c.in-Some.rest.now in
    let cut : cleaned_text key left ≡ front ++ cleaned_byte key mark ∷ cleaned_text key rest =
    cleaned_cut key left front rest mark c.in-Some.ensures.whole c.in-Some.ensures.front in (
      search rules,
      λ more. c.take_byte.ensures (cleaned_text key rest ++ more)
          ∙ c.take_piece.ensures.taken (c.mark_for.result ∷ (cleaned_text key rest ++ more))
          ∙ ap (λ b. ends (front ++ b ∷ (cleaned_text key rest ++ more))) c.mark_for.ensures.cleaned
          ∙ ap ends (sym (append_assoc front (cleaned_byte key mark ∷ cleaned_text key rest) more) ∙ ap (λ t. t ++ more) (sym cut))
          ∙ c.loop-front.invariant.1 more,
    )

pub returns : goal.returns
returns g c = λ rest.
    c.take_piece-2.ensures.taken rest
    ∙ ap (λ t. g.S.ByteWriter.ends_as c.loop-front.line (t ++ rest)) (sym (cleaned_plain c.args.after_key c.loop-front.left.now c.in_default.ensures.none))
    ∙ c.loop-front.invariant.1 rest
