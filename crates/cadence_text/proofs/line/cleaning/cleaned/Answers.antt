use Rattle.std.proofs.Common.{◌≡◌, ◌∙◌, ap, arith, length, map, rules, subst, sym}
use Rattle.std.specs.Prelude.{IsUtf8}
use Rattle.std.proofs.lemmas.List.{length-map}
use Rattle.cadence_text.specs.Cleaned.{cleaned_byte, cleaned_text}
use Rattle.cadence_text.proofs.grammar.Cleaned.{all_written, cleaned_utf8}
use Rattle.cadence_text.proofs.line.cleaning.cleaned.Goals as goal

pub from_utf8_unchecked-requires : goal.from_utf8_unchecked-requires
from_utf8_unchecked-requires g c =
    let items = c.in_ok-bytes.bytes.items in
    let text = c.args.text.now in
    let clean = cleaned_byte c.args.after_key in
    let same : items ≡ text = search rules in
    let made : c.clean.new.text ≡ map clean text = c.clean.ensures ∙ ap (map clean) (c.deref_mut.ensures.value ∙ same) in
    let long : c.in_ok-bytes.bytes.len ≡ length items = search rules in
    subst IsUtf8 (sym (all_written c.in_ok-bytes.bytes.len c.clean.new.text items (omega (arith, long, ap length made, ap length same, length-map text clean)) long ∙ made))
    (cleaned_utf8 c.args.after_key text c.utf8.text)

pub returns : goal.returns
unfolding cleaned_text
returns g c =
    let items = c.in_ok-bytes.bytes.items in
    let text = c.args.text.now in
    let clean = cleaned_byte c.args.after_key in
    let same : items ≡ text = search rules in
    let made : c.clean.new.text ≡ map clean text = c.clean.ensures ∙ ap (map clean) (c.deref_mut.ensures.value ∙ same) in
    let long : c.in_ok-bytes.bytes.len ≡ length items = search rules in
    ap (λ v. v.items) c.from_utf8_unchecked.ensures.value ∙ all_written c.in_ok-bytes.bytes.len c.clean.new.text items (omega (arith, long, ap length made, ap length same, length-map text clean)) long ∙ made
