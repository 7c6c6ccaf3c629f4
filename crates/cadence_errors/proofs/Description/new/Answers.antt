use Rattle.std.proofs.Common.{arith, ◌≡◌, ℕ, ◌+◌, ◌<◌, ◌≤◌, length, List, [], ◌++◌, inl, inr, ap, refl, ◌∙◌}
use Rattle.std.proofs.lemmas.Bool.{cases_lt, le-leb}
use Rattle.std.specs.Fmt.Cut.{cut_to}
use Rattle.std.specs.Fmt.InlineText.{inline_text}
use Rattle.cadence_errors.proofs.Description.new.Goals as goal

-- what was empty before has the text as `cut_to` says, if it takes a text that fits and cuts any other
stores : (before kept text : List ℕ) → before ≡ [] → (length before + length text ≤ 72 → kept ≡ before ++ text)
    → (72 < length before + length text → kept ≡ cut_to 72 (before ++ text)) → kept ≡ cut_to 72 text
unfolding cut_to
stores before kept text is fits cut =
    let none : length before ≡ 0 = ap length is in
    elim (cases_lt 72 (length text)) [
      | inl long ↦ cut (omega arith) ∙ ap (λ t. cut_to 72 (t ++ text)) is
      | inr short ↦
          fits (omega arith) ∙ (ap (λ t. t ++ text) is ∙ rw (le-leb (length text) 72 short) refl)
    ]

pub returns : goal.returns
returns c =
    let was = c.new-stored.ensures in
    let wrote = c.write_str-cut.ensures in
    stores (inline_text c.new-stored.result) (inline_text c.write_str-cut.new.self) c.args.text.now was.text
    (λ short. (wrote.ok (wrote.fits was.intact was.open short) was.intact).1) (wrote.cut was.intact was.open)
