-- A table of flags for bytes: it has zero at each byte that is no separator, and at no other byte.
use Rattle.std.proofs.Common.{◌≡◌, ℕ, zero, suc, ◌+◌, ◌<◌, List, [], ◌∷◌, length, get_or, Bool, true, false, sym, ap, ◌∙◌, arith}
use Rattle.std.specs.Prelude.{if◌then◌else◌, ◌↔◌, ◌&&◌, ◌==◌, not}
use Rattle.std.proofs.lemmas.Bool.{and_parts, eq-eqb, eqb-true, not-true}
use Rattle.cadence_text.specs.OneReading.{AreSeparatorFlags, IsNoSeparator}
use Rattle.cadence_text.specs.FreeTexts.{is_no_separator}
use Rattle.cadence_text.proofs.grammar.FreeTexts.{no_separator, no_separator_from}

-- The first flag is that of this byte, and each flag is zero just if its byte is no separator.
unfoldable pub agrees : List ℕ → ℕ → Bool
agrees [] byte = true
agrees (flag ∷ rest) byte = (if is_no_separator byte then flag == 0 else not (flag == 0)) && agrees rest (suc byte)

same : (p z : Bool) → (if p then z else not z) ≡ true → z ≡ p
same true z h = h
same false z h = not-true z h

flag_at : (flags : List ℕ) (first k : ℕ) → agrees flags first ≡ true → k < length flags → (get_or flags k 0 == 0) ≡ is_no_separator (k + first)
unfolding agrees
flag_at [] first k h below = absurd (omega arith)
flag_at (flag ∷ rest) first zero h below =
    let (here, later) = and_parts (if is_no_separator first then flag == 0 else not (flag == 0)) (agrees rest (suc first)) h in
    same (is_no_separator first) (flag == 0) here ∙ ap is_no_separator (omega arith)
flag_at (flag ∷ rest) first (suc k) h below =
    let (here, later) = and_parts (if is_no_separator first then flag == 0 else not (flag == 0)) (agrees rest (suc first)) h in
    flag_at rest (suc first) k later (omega arith) ∙ ap is_no_separator (omega arith)

pub flags_from : (flags : List ℕ) → agrees flags 0 ≡ true → length flags ≡ 256 → AreSeparatorFlags flags
unfolding AreSeparatorFlags
flags_from flags h size byte below =
    let at : (get_or flags byte 0 == 0) ≡ is_no_separator byte = flag_at flags 0 byte h (omega arith) ∙ ap is_no_separator (omega arith) in (
      λ zero. no_separator byte (sym at ∙ eq-eqb (get_or flags byte 0) 0 zero),
      λ free. eqb-true (get_or flags byte 0) 0 (at ∙ no_separator_from byte free),
    )

pub flag_says : (flags : List ℕ) (byte : ℕ) → AreSeparatorFlags flags → byte < 256 → (get_or flags byte 0 ≡ 0) ↔ IsNoSeparator byte
unfolding AreSeparatorFlags
flag_says flags byte h below = h byte below
