-- The texts that the writers of a line end with. The writers are the counter of bytes and the line buffer.
use Rattle.std.proofs.Common.{◌≡◌, ℕ, ◌+◌, ◌%◌, ◌^◌, ◌<◌, ◌≤◌, Bool, true, false, ltb, List, [], ◌∷◌, ◌++◌, map, subst, length, replicate, sym}
use Rattle.std.proofs.Common.{ap, ap₂, ◌∙◌, arith, refl}
use Rattle.std.proofs.lemmas.List.{append-nil, length-append, length-replicate}
use Rattle.std.proofs.lemmas.Bool.{cond-false, cond-true, le-ltb, lt-ltb, ltb-false}
use Rattle.std.proofs.Math.Seq.{take-append_seam, drop-append_seam}
use Rattle.cadence_text.specs.Cleaned.{cleaned_byte}
use Rattle.cadence_text.proofs.grammar.Cleaned.{cleaned_utf8}
use Rattle.std.specs.Prelude.{if◌then◌else◌, IsUtf8}
use Rattle.std.proofs.lemmas.Str.{IsUtf8-append, IsUtf8-from_ascii, IsUtf8-had}
use Rattle.std.proofs.lemmas.Str.Ascii.{IsAscii-cons, IsAscii-nil}
use Rattle.cadence_text.specs.PieceWriters.{cleaned_after, text_up_to}

-- A counter that began at 0 and took a text shows the text's length.
pub counted_whole : (count : ℕ) (text : List ℕ) → count < 2 ^ 128 → length text < 2 ^ 128
    → replicate {A = ℕ} ((count + 0) % 2 ^ 128) 0 ≡ replicate ((0 + length (text ++ [])) % 2 ^ 128) 0 → count ≡ length text
counted_whole count text fits short e =
    omega (
      arith,
      ap (λ t. length t) e,
      length-replicate {A = ℕ} ((count + 0) % 2 ^ 128) 0,
      length-replicate {A = ℕ}
          ((0 + length (text ++ [])) % 2 ^ 128) 0,
      length-append text [],
    )

-- If a line buffer has room for exactly one text, and took that text, it has that text.
kept : (longer : Bool) (held text : List ℕ) → 0 < length text → (if longer then [] else held) ≡ text → held ≡ text
kept true held text some e = absurd (omega (arith, ap (λ t. length t) e))
kept false held text some e = e

pub filled_all : (before after : ℕ) (new whole text : List ℕ) → 0 < length text → length text ≤ before → whole ≡ text
    → text_up_to after (new ++ []) ≡ text_up_to before whole → new ≡ text
filled_all before after new whole text some fits is e =
    let within : text_up_to before text ≡ text = cond-false (ltb before (length text)) [] text (le-ltb before (length text) fits) in
    sym (append-nil new) ∙ kept (ltb after (length (new ++ []))) (new ++ []) text some (e ∙ ap (text_up_to before) is ∙ within)

pub filled_whole : (before after : ℕ) (old new text : List ℕ) → 0 < length text → old ≡ [] → before ≡ length text
    → text_up_to after (new ++ []) ≡ text_up_to before (old ++ (text ++ [])) → new ≡ text
filled_whole before after old new text some none end e =
    filled_all before after new (old ++ (text ++ [])) text some (omega arith) (ap (λ o. o ++ (text ++ [])) none ∙ append-nil text) e

-- If a line buffer reserved room for more text, and took that text, it has both texts.
pub filled_more : (before after : ℕ) (old was new more : List ℕ) → 0 < length old + length more → length old + length more ≤ before
    → was ≡ old → text_up_to after (new ++ []) ≡ text_up_to before (was ++ (more ++ [])) → new ≡ old ++ more
filled_more before after old was new more some fits same e =
    filled_all before after new (was ++ (more ++ [])) (old ++ more) (omega (arith, some, length-append old more))
    (omega (arith, fits, length-append old more)) (ap (λ o. o ++ (more ++ [])) same
    ∙ ap (λ m. old ++ m) (append-nil more)) e

-- If a line buffer took a text, and has room for what comes next, then that fits after the text.
fits_in : (longer : Bool) (after : ℕ) (held text : List ℕ) → ltb after (length held) ≡ longer → 0 < length text
    → (if longer then [] else held) ≡ text → length held ≤ after
fits_in true after held text is some e = absurd (omega (arith, ap (λ t. length t) e, some))
fits_in false after held text is some e = ltb-false after (length held) is

pub room_left : (before after : ℕ) (new text more : List ℕ) → 0 < length text → length text + length more ≤ before
    → text_up_to after (new ++ (more ++ [])) ≡ text_up_to before (text ++ (more ++ [])) → length new + length more ≤ after
room_left before after new text more some fits e =
    let whole = text ++ (more ++ []) in
    let size : length whole ≡ length text + length more = omega (arith, length-append text (more ++ []), length-append more []) in
    let within : text_up_to before whole ≡ whole =
    cond-false (ltb before (length whole)) [] whole (le-ltb before (length whole) (omega (arith, size, fits))) in
    let left : length (new ++ (more ++ [])) ≤ after =
    fits_in (ltb after (length (new ++ (more ++ [])))) after (new ++ (more ++ [])) whole refl (omega (arith, size, some)) (e ∙ within) in
    omega (arith, left, length-append new (more ++ []), length-append more [])

-- A text in UTF-8 stays in UTF-8 with more such text, or with one more ASCII byte.
pub utf8_more : (old more new : List ℕ) → ∥ IsUtf8 old ∥₁ → IsUtf8 more → new ≡ old ++ more → ∥ IsUtf8 new ∥₁
utf8_more old more new h k e = ∣ subst IsUtf8 (sym e) (IsUtf8-append old more (IsUtf8-had old h) k) ∣₁

pub utf8_byte : (byte : ℕ) → byte < 128 → IsUtf8 (byte ∷ [])
utf8_byte byte h = IsUtf8-from_ascii (byte ∷ []) (IsAscii-cons byte [] h IsAscii-nil)

-- If a text is counted first, and then written into room of that length, the buffer has it after its earlier text.
pub counted_written : (count told before after : ℕ) (old was new text : List ℕ) → count < 2 ^ 128 → length text < 2 ^ 128
    → replicate {A = ℕ} ((count + 0) % 2 ^ 128) 0 ≡ replicate ((0 + length (text ++ [])) % 2 ^ 128) 0
    → told ≡ count → before ≡ length old + told → 0 < length old → was ≡ old → text_up_to after (new ++ []) ≡ text_up_to before (was ++ (text ++ []))
    → new ≡ old ++ text
counted_written count told before after old was new text fits short counted same end some is taken =
    let whole : count ≡ length text = counted_whole count text fits short counted in
    filled_more before after old was new text (omega (arith, some)) (omega (arith, whole, same, end)) is taken

-- A buffer that gave up ends with no text, as a text that passes the end does.
nothing_up_to : (rest : List ℕ) → text_up_to 0 rest ≡ []
nothing_up_to [] = refl
nothing_up_to (x ∷ rest) = cond-true (ltb 0 (length (x ∷ rest))) [] (x ∷ rest) (lt-ltb 0 (length (x ∷ rest)) (omega arith))

pub given_up : (end : ℕ) (old text new rest : List ℕ) (after : ℕ) → end < length old + length text → new ≡ [] → after ≡ 0
    → text_up_to after (new ++ rest) ≡ text_up_to end (old ++ (text ++ rest))
given_up end old text new rest after long none zero =
    let whole = old ++ (text ++ rest) in
    let over : end < length whole = omega (arith, long, length-append old (text ++ rest), length-append text rest) in
    ap (λ n. text_up_to n (new ++ rest)) zero ∙ ap (λ t. text_up_to 0 (t ++ rest)) none ∙ nothing_up_to rest
    ∙ sym (cond-true (ltb end (length whole)) [] whole (lt-ltb end (length whole) over))

-- The end of a text is cleaned if it is cleaned after the length of its beginning.
pub cleaned_end : (after_key : Bool) (start : ℕ) (old piece new : List ℕ) → start ≡ length old → new ≡ old ++ piece
    → cleaned_after start after_key new ≡ old ++ map (cleaned_byte after_key) piece
cleaned_end after_key start old piece new at is =
    ap₂ (λ n l. cleaned_after n after_key l) at is
    ∙ ap₂ (λ a b. a ++ map (cleaned_byte after_key) b) (take-append_seam old piece) (drop-append_seam old piece)

pub cleaned_end_utf8 : (after_key : Bool) (start : ℕ) (old piece new : List ℕ) → start ≡ length old → new ≡ old ++ piece → ∥ IsUtf8 old ∥₁ → IsUtf8 piece
    → IsUtf8 (cleaned_after start after_key new)
cleaned_end_utf8 after_key start old piece new at is before here =
    subst IsUtf8 (sym (cleaned_end after_key start old piece new at is))
    (IsUtf8-append old (map (cleaned_byte after_key) piece) (IsUtf8-had old before) (cleaned_utf8 after_key piece here))
