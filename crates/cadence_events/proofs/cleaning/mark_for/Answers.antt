use Rattle.std.proofs.Common.{◌≡◌, ◌≢◌, rules, subst, sym, true, false}
use Rattle.cadence_text.specs.Cleaned.{cleaned_byte}
use Rattle.cadence_events.proofs.CleanedTexts.{colon_kept, gone, gone_after_key}
use Rattle.cadence_events.proofs.cleaning.mark_for.Goals as goal

pub returns-then-not-after_key-clause-cleaned : goal.returns-then-not-after_key-clause-cleaned
returns-then-not-after_key-clause-cleaned c =
    let is : c.args.after_key ≡ false = search rules in
    subst (λ k. 95 ≡ cleaned_byte k c.args.separator) (sym is) (gone c.args.separator c.requires)

pub returns-then-separator-eq58-clause-cleaned : goal.returns-then-separator-eq58-clause-cleaned
returns-then-separator-eq58-clause-cleaned c =
    let is : c.args.after_key ≡ true = search rules in
    let colon : c.args.separator ≡ 58 = search rules in
    subst (λ k. 58 ≡ cleaned_byte k c.args.separator) (sym is) (subst (λ b. 58 ≡ cleaned_byte true b) (sym colon) colon_kept)

pub returns-else-separator-eq58-clause-cleaned : goal.returns-else-separator-eq58-clause-cleaned
returns-else-separator-eq58-clause-cleaned c =
    let is : c.args.after_key ≡ true = search rules in
    let other : c.args.separator ≢ 58 = search rules in
    subst (λ k. 95 ≡ cleaned_byte k c.args.separator) (sym is) (gone_after_key c.args.separator c.requires other)
