use Rattle.std.proofs.Common.{◌≡◌, ℕ, ◌+◌, ◌<◌, ◌≤◌, ◌++◌, Bool, true, false, List, [], take, replicate, ap, arith, length, refl, sym, subst, ◌∙◌}
use Rattle.std.proofs.lemmas.Grind.{common_steps}
use Rattle.std.proofs.lemmas.List.{append-nil}
use Rattle.std.specs.Prelude.{◌||◌, nat_lt, if◌then◌else◌}
use Rattle.std.specs.Str.{IsUtf8}
use Rattle.cadence_value.specs.Number.{number_text, Number}
use Rattle.cadence_value.specs.NumberBuf.{number_buf_ends}
use Rattle.cadence_value.specs.declared.text.display.NumberBuf.{NumberBuf}
use Rattle.cadence_value.proofs.digits.NumberLength.{length-number_text-le}
use Rattle.cadence_value.proofs.digits.NumberText.{number_some, number_utf8}
use Rattle.cadence_value.proofs.text.display.text_of.Goals as goal

-- A buffer that ends with some text has not been given up.
kept : (gone : Bool) (held text : List ℕ) → 0 < length text → (if gone then [] else held) ≡ text → (gone ≡ false) × (held ≡ text)
kept true held text some e = absurd (omega (arith, ap (λ t. length t) e))
kept false held text some e = (refl, e)

fits_in : (bytes text : List ℕ) → length text ≤ 71 → number_buf_ends (record { bytes = bytes; len = 0; is_over = false }) text ≡ text
fits_in bytes text fits = grind (arith, common_steps)

-- An empty buffer ends with a text that fits.
fresh : (bytes text : List ℕ) → length text ≤ 71 → number_buf_ends (record { bytes = bytes; len = 0; is_over = false }) (text ++ []) ≡ text
fresh bytes text fits =
    subst (λ t. number_buf_ends (record { bytes = bytes; len = 0; is_over = false }) t ≡ text) (sym (append-nil text)) (fits_in bytes text fits)

open_le : (over : Bool) (n : ℕ) → (over || nat_lt 71 (n + 0)) ≡ false → n ≤ 71
open_le over n e = grind (arith, common_steps)

-- What a buffer shows that ends with the text of a number.
shown : (b : NumberBuf) (n : Number) → number_buf_ends b [] ≡ number_text n → (b.len ≤ 71) × (take b.len b.bytes ≡ number_text n)
shown b n ends =
    let (here, same) = kept (b.is_over || nat_lt 71 (b.len + 0)) (take b.len b.bytes ++ []) (number_text n) (number_some n) ends in
    (open_le b.is_over b.len here, sym (append-nil (take b.len b.bytes)) ∙ same)

pub returns : goal.returns
returns g c =
    let n = g.T.IsNumber.number c.args.number.now in
    let ends = c.push_to.ensures.taken [] ∙ fresh (replicate 71 0) (number_text n) (length-number_text-le n c.push_to.ensures.sized) in
    let (small, text) = shown c.push_to.new.line n ends in
    record { len = small; utf8 = subst IsUtf8 (sym text) (number_utf8 n); text = text }
