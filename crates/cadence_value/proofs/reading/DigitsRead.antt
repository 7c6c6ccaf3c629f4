-- Reading digits: digits without a needless zero in front are exactly the digits that are written of their value.
use Rattle.std.proofs.Common.{◌≡◌, ◌≢◌, ℕ, zero, suc, ◌+◌, ◌*◌, ◌-◌, ◌/◌, ◌%◌, ◌^◌, ◌<◌, ◌≤◌, List, [], ◌∷◌, ◌++◌, length, replicate, refl}
use Rattle.std.proofs.Common.{sym, ap, ◌∙◌, ap₂, subst, arith, get_or, eqb, lit<, Option, Some, None, inl, inr, ◌⊎◌, true, false}
use Rattle.std.specs.Prelude.{SomeIff}
use Rattle.std.specs.Str.{IsUtf8}
use Rattle.std.specs.Char.{digit_value, IsNotAsciiDigit}
use Rattle.std.specs.Str.Parse.{digits_value, digits_value_after, AllDigits, IsNumeral}
use Rattle.std.proofs.lemmas.Bool.Decides.{eqb_tells}
use Rattle.std.proofs.lemmas.Fmt.{IsAscii-from_digits}
use Rattle.std.proofs.lemmas.Int.Digits.{digits_value-lt}
use Rattle.std.proofs.lemmas.List.{append-nil, append_assoc}
use Rattle.std.proofs.lemmas.Nat.{div-mul-add, mod-mul-add}
use Rattle.std.proofs.lemmas.Str.{digit_value_digit, IsUtf8-from_ascii}
use Rattle.std.proofs.lemmas.Str.Parse.{digit_at, digit_from_value}
use Rattle.cadence_value.specs.Number.{decimal_text, padded_digits}
use Rattle.cadence_value.proofs.digits.Digits.{text_digit, text_step, text_by_steps, text_numeral, length-decimal_text-le}
use Rattle.cadence_value.specs.PrintedNumber.{ReadsNatural}

-- The byte of a digit.
pub digit_byte : (d : ℕ) → digit_value d < 10 → 48 + digit_value d ≡ d
digit_byte d h = omega (arith, digit_value_digit d (digit_from_value d h))

-- If more digits come after the digits of a number that is not zero, all of them are the digits of their value.
text_more : (n : ℕ) (ds : List ℕ) → 0 < n → AllDigits 10 ds → decimal_text (digits_value_after 10 n ds) ≡ decimal_text n ++ ds
text_more n [] some h = sym (append-nil (decimal_text n))
text_more n (d ∷ ds) some (h, hs) =
    let m = n * 10 + digit_value d in
    let front : m / 10 ≡ n = div-mul-add n 10 (digit_value d) h in
    let last : m % 10 ≡ digit_value d = mod-mul-add n 10 (digit_value d) h in
    let step : decimal_text m ≡ decimal_text (m / 10) ++ ((48 + m % 10) ∷ []) = text_step m (omega arith) in
    let here : decimal_text m ≡ decimal_text n ++ (d ∷ []) = step
    ∙ ap₂ (λ a b. decimal_text a ++ (b ∷ [])) front (ap (λ x. 48 + x) last ∙ digit_byte d h) in
    text_more m ds (omega arith) hs ∙ ap (λ t. t ++ ds) here ∙ append_assoc (decimal_text n) (d ∷ []) ds

pub nonzero : (v d : ℕ) → 48 + v ≡ d → (d ≡ 48 → ⊥) → 0 < v
nonzero zero d e other = absurd (other (sym e))
nonzero (suc v) d e other = omega arith

first_value : (d : ℕ) (ds : List ℕ) → digits_value 10 (d ∷ ds) ≡ digits_value_after 10 (digit_value d) ds
first_value d ds = let plain : 0 * 10 + digit_value d ≡ digit_value d = omega arith in ap (λ k. digits_value_after 10 k ds) plain

-- Digits that do not begin with a zero, or that are a single zero, are the digits that are written of their value.
pub text_of_digits : (d : ℕ) (ds : List ℕ) → AllDigits 10 (d ∷ ds) → (d ≡ 48 → length ds ≡ 0) → decimal_text (digits_value 10 (d ∷ ds)) ≡ d ∷ ds
text_of_digits d [] (h, hs) plain = ap decimal_text (first_value d []) ∙ text_digit (digit_value d) h ∙ ap (λ x. x ∷ []) (digit_byte d h)
text_of_digits d (e ∷ ds) (h, hs) plain =
    let some : 0 < digit_value d = nonzero (digit_value d) d (digit_byte d h) (λ z. absurd (omega (arith, plain z))) in
    ap decimal_text (first_value d (e ∷ ds)) ∙ text_more (digit_value d) (e ∷ ds) some hs
    ∙ ap (λ t. t ++ (e ∷ ds)) (text_digit (digit_value d) h ∙ ap (λ x. x ∷ []) (digit_byte d h))

-- The digits of a number begin with a zero only if they are a single zero.
first_is_plain : (n : ℕ) → (0 < length (decimal_text n)) × (get_or (decimal_text n) 0 0 ≡ 48 → n ≡ 0)
first_is_plain n = text_by_steps (λ n ds. (0 < length ds) × (get_or ds 0 0 ≡ 48 → n ≡ 0)) (λ n small. (omega arith, λ e. omega arith)) more n
  where
    more : (n : ℕ) (ds : List ℕ) → 10 ≤ n → (0 < length ds) × (get_or ds 0 0 ≡ 48 → n / 10 ≡ 0)
        → (0 < length (ds ++ ((48 + n % 10) ∷ []))) × (get_or (ds ++ ((48 + n % 10) ∷ [])) 0 0 ≡ 48 → n ≡ 0)
    more n [] big (some, zero_first) = absurd (omega arith)
    more n (d ∷ ds) big (some, zero_first) = (omega arith, λ e. absurd (omega (arith, zero_first e)))

pub text_plain : (n : ℕ) → get_or (decimal_text n) 0 0 ≡ 48 → length (decimal_text n) ≡ 1
text_plain n e =
    let none : n ≡ 0 = (first_is_plain n).1 e in
    ap (λ t. length t) (ap decimal_text none ∙ text_digit 0 (lit< tt))

-- If digits are zeros and then the digits of their value, they are so with one more zero in front.
filled_after_zero : (ds : List ℕ) (v : ℕ) → length (decimal_text v) ≤ length ds → padded_digits (length ds) (decimal_text v) ≡ ds
    → padded_digits (suc (length ds)) (decimal_text v) ≡ 48 ∷ ds
filled_after_zero ds v short later =
    let more : suc (length ds) - length (decimal_text v) ≡ suc (length ds - length (decimal_text v)) = omega arith in
    ap (λ k. replicate k 48 ++ decimal_text v) more ∙ ap (λ t. 48 ∷ t) later

filled_plain : (t ds : List ℕ) → t ≡ ds → padded_digits (length ds) t ≡ ds
filled_plain t ds e =
    let none : length ds - length t ≡ 0 = omega (arith, ap (λ s. length s) e) in
    ap (λ k. replicate k 48 ++ t) none ∙ e

filled_more : (d : ℕ) (ds : List ℕ) → AllDigits 10 (d ∷ ds) → 0 < length ds → padded_digits (length ds) (decimal_text (digits_value 10 ds)) ≡ ds
    → ((eqb d 48 ≡ true) × (d ≡ 48)) ⊎ ((eqb d 48 ≡ false) × (d ≢ 48))
    → padded_digits (length (d ∷ ds)) (decimal_text (digits_value 10 (d ∷ ds))) ≡ d ∷ ds
filled_more d ds (h, hs) some later (inl (_, zero_first)) =
    let v = digits_value 10 ds in
    let short : length (decimal_text v) ≤ length ds = length-decimal_text-le (length ds) v some (digits_value-lt 10 ds hs) in
    let same : digits_value 10 (d ∷ ds) ≡ v = ap (λ x. digits_value 10 (x ∷ ds)) zero_first in
    ap (λ x. padded_digits (length (d ∷ ds)) (decimal_text x)) same ∙ filled_after_zero ds v short later ∙ ap (λ x. x ∷ ds) (sym zero_first)
filled_more d ds h some later (inr (_, other)) =
    filled_plain (decimal_text (digits_value 10 (d ∷ ds))) (d ∷ ds) (text_of_digits d ds h (λ e. absurd (other e)))

-- Any digits are zeros and then the digits of their value.
pub filled_digits : (ds : List ℕ) → AllDigits 10 ds → 0 < length ds → padded_digits (length ds) (decimal_text (digits_value 10 ds)) ≡ ds
filled_digits [] h some = absurd (omega arith)
filled_digits (d ∷ []) h some =
    filled_plain (decimal_text (digits_value 10 (d ∷ []))) (d ∷ []) (text_of_digits d [] h (λ e. refl))
filled_digits (d ∷ e ∷ ds) (h, hs) some =
    filled_more d (e ∷ ds) (h, hs) (omega arith) (filled_digits (e ∷ ds) hs (omega arith)) (eqb_tells d 48)

pub numeral_utf8 : (text : List ℕ) → IsNumeral 10 text → IsUtf8 text
numeral_utf8 text (some, digits) = IsUtf8-from_ascii text (IsAscii-from_digits text digits)

-- Digits without a needless zero in front are the digits of exactly one whole number.
pub whole_read : (text : List ℕ) (o : Option ℕ) → (length text ≡ 0 → ⊥) → (1 < length text → get_or text 0 0 ≢ 48)
    → SomeIff o (AllDigits 10 text × (digits_value 10 text < 2 ^ 128)) (digits_value 10 text) → ReadsNatural text o
whole_read [] (Some x) some plain read = absurd (some refl)
whole_read (d ∷ ds) (Some x) some plain ((digits, fits), same) =
    (omega arith, ap decimal_text same ∙ text_of_digits d ds digits (λ e. no_more ds (λ more. plain (omega arith) e)))
  where
    no_more : (ds : List ℕ) → (0 < length ds → ⊥) → length ds ≡ 0
    no_more [] h = refl
    no_more (e ∷ es) h = absurd (h (omega arith))
whole_read text None some plain none = λ n is.
    let (numeral, value) = text_numeral n in
    none ((subst (IsNumeral 10) is.1 numeral).1, omega (arith, is.0, value, ap (digits_value 10) (sym is.1)))

-- An empty text is the text of no whole number.
pub empty_refused : (text : List ℕ) → length text ≡ 0 → ReadsNatural text None
empty_refused text none n (small, same) = absurd (omega (arith, none, ap (λ t. length t) same, (text_numeral n).0.0))

-- A text with a needless zero in front is the text of no whole number.
pub zero_refused : (text : List ℕ) → 1 < length text → get_or text 0 0 ≡ 48
    → ReadsNatural text None
zero_refused text long zero_first n (small, same) =
    absurd (omega (arith, long, ap (λ t. length t) same, text_plain n (ap (λ t. get_or t 0 0) same ∙ zero_first)))

-- A text with a byte that is no digit is not made of digits.
pub not_digit : (text : List ℕ) (k : ℕ) → k < length text → IsNotAsciiDigit (get_or text k 0) → AllDigits 10 text → ⊥
not_digit text k within other digits = absurd (grind (arith, digit_at text k digits within, other))
