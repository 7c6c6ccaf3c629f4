-- The digits of a whole number: how they are built up digit by digit, their value, and how many they are.
use Rattle.std.proofs.Common.{◌≡◌, ℕ, zero, suc, ◌+◌, ◌/◌, ◌%◌, ◌^◌, ◌<◌, ◌≤◌, List, [], ◌∷◌, ◌++◌, length, map, refl, sym, ap, ap₂, ◌∙◌}
use Rattle.std.proofs.Common.{subst, arith, eqb, false, lit<, ⊎_elim}
use Rattle.std.specs.Char.{digit_value}
use Rattle.std.specs.Int.Digits.{digits_of}
use Rattle.std.specs.Str.Parse.{digits_value, IsNumeral}
use Rattle.std.proofs.lemmas.Bool.{ne_eqb, cases_lt}
use Rattle.std.proofs.lemmas.Int.Digits.{digits_of_step, length-digits_of-le, digits_push, digits_value_push}
use Rattle.std.proofs.lemmas.List.{append_assoc, length-append, length-map, map-append}
use Rattle.std.proofs.lemmas.Str.{digit_value_digit}
use Rattle.cadence_value.specs.Number.{decimal_text}

abbrev glyphs : List ℕ → List ℕ
glyphs ds = map (λ d. 48 + d) ds

text_some : (n : ℕ) → 0 < n → decimal_text n ≡ glyphs (digits_of 10 n)
unfolding decimal_text
text_some n some = let other : eqb n 0 ≡ false = ne_eqb n 0 (λ e. omega arith) in rw other refl

-- The digits of a number of two digits or more are the digits of a tenth of it, and then its last digit.
digits_step : (n : ℕ) → 0 < n → glyphs (digits_of 10 n) ≡ glyphs (digits_of 10 (n / 10)) ++ ((48 + n % 10) ∷ [])
digits_step n some = ap glyphs (digits_of_step 10 n (lit< tt) some) ∙ map-append (λ d. 48 + d) (digits_of 10 (n / 10)) (n % 10 ∷ [])

-- A number below 10 has one digit.
pub text_digit : (n : ℕ) → n < 10 → decimal_text n ≡ (48 + n) ∷ []
unfolding decimal_text
text_digit zero small = refl
text_digit (suc n) small =
    let front : suc n / 10 ≡ 0 = omega arith in
    let last : suc n % 10 ≡ suc n = omega arith in
    text_some (suc n) (omega arith) ∙ digits_step (suc n) (omega arith) ∙ ap₂ (λ a b. glyphs (digits_of 10 a) ++ ((48 + b) ∷ [])) front last

pub text_step : (n : ℕ) → 10 ≤ n → decimal_text n ≡ decimal_text (n / 10) ++ ((48 + n % 10) ∷ [])
text_step n big =
    text_some n (omega arith) ∙ digits_step n (omega arith) ∙ ap (λ t. t ++ ((48 + n % 10) ∷ [])) (sym (text_some (n / 10) (omega arith)))

-- Induction over digits: what is true of one digit, and stays true with one more digit, is true of the digits of every
-- number.
module _ (P : ℕ → List ℕ → Type 0) (one : (n : ℕ) → n < 10 → P n ((48 + n) ∷ []))
    (more : (n : ℕ) (ds : List ℕ) → 10 ≤ n → P (n / 10) ds → P n (ds ++ ((48 + n % 10) ∷ []))) where
  within : (turns n : ℕ) → n ≤ turns → P n (decimal_text n)
  within zero n h = subst (P n) (sym (text_digit n (omega arith))) (one n (omega arith))
  within (suc turns) n h =
      ⊎_elim
      (λ (small : n < 10). subst (P n) (sym (text_digit n small)) (one n small))
      (λ (big : 10 ≤ n). subst (P n) (sym (text_step n big)) (more n (decimal_text (n / 10)) big (within turns (n / 10) (omega arith))))
      (cases_lt n 10)

  pub text_by_steps : (n : ℕ) → P n (decimal_text n)
  text_by_steps n = within n n (omega arith)

glyph_value : (d : ℕ) → d < 10 → digit_value (48 + d) ≡ d
glyph_value d h = omega (arith, digit_value_digit (48 + d) (omega arith, omega arith))

-- The digits of a number are a numeral, and the numeral's value is the number.
pub text_numeral : (n : ℕ) → IsNumeral 10 (decimal_text n) × (digits_value 10 (decimal_text n) ≡ n)
text_numeral n =
    text_by_steps (λ n ds. IsNumeral 10 ds × (digits_value 10 ds ≡ n))
    (λ n small. let value = glyph_value n small in ((omega arith, (omega (arith, value), tt)), omega (arith, value)))
    (λ n ds big ((some, digits), value).
    let last = glyph_value (n % 10) (omega arith) in (
      (omega (arith, length-append ds ((48 + n % 10) ∷ [])), digits_push 10 ds (48 + n % 10) digits (omega (arith, last))),
      digits_value_push 10 ds (48 + n % 10) ∙ omega (arith, value, last),
    )) n

-- Two numbers with the same digits are the same number.
pub decimal_text_once : (m n : ℕ) → decimal_text m ≡ decimal_text n → m ≡ n
decimal_text_once m n e = sym (text_numeral m).1 ∙ ap (digits_value 10) e ∙ (text_numeral n).1

-- A number below 10 ^ k has at most k digits.
pub length-decimal_text-le : (k n : ℕ) → 0 < k → n < 10 ^ k → length (decimal_text n) ≤ k
length-decimal_text-le k zero some h = omega (arith, ap (λ t. length t) (text_digit 0 (lit< tt)))
length-decimal_text-le k (suc n) some h =
    omega (
      arith,
      ap (λ t. length t) (text_some (suc n) (omega arith)),
      length-map (digits_of 10 (suc n)) (λ d. 48 + d),
      length-digits_of-le
          10 k (suc n) (lit< tt) h,
    )

-- The two digits of a number below 100, also if the first one is 0.
abbrev pair : ℕ → List ℕ
pair p = (48 + p / 10) ∷ (48 + p % 10) ∷ []

pub text_two : (n : ℕ) → 10 ≤ n → n < 100 → decimal_text n ≡ (48 + n / 10) ∷ (48 + n % 10) ∷ []
text_two n low high = text_step n low ∙ ap (λ t. t ++ ((48 + n % 10) ∷ [])) (text_digit (n / 10) (omega arith))

-- The digits of a number are those of a hundredth of it and then its last two digits (`text_pair`), or those of a
-- ten-thousandth of it and then its last four (`text_four`).
pub text_pair : (n : ℕ) → 100 ≤ n → decimal_text n ≡ decimal_text (n / 100) ++ ((48 + n % 100 / 10) ∷ (48 + n % 100 % 10) ∷ [])
text_pair n h =
    let front : n / 10 / 10 ≡ n / 100 = omega arith in
    let tens : n / 10 % 10 ≡ n % 100 / 10 = omega arith in
    let ones : n % 10 ≡ n % 100 % 10 = omega arith in
    rw (text_step n (omega arith), text_step (n / 10) (omega arith), append_assoc, front, tens, ones)

pub text_four : (n : ℕ) → 10000 ≤ n → decimal_text n ≡ decimal_text (n / 10000) ++ (pair (n % 10000 / 100) ++ pair (n % 100))
text_four n h =
    let front : n / 100 / 100 ≡ n / 10000 = omega arith in
    let second : n / 100 % 100 ≡ n % 10000 / 100 = omega arith in
    rw (text_pair n (omega arith), text_pair (n / 100) (omega arith), append_assoc, front, second)

-- A number below 10 has one digit, and one from 10 to 99 has two. A larger number has two more than a hundredth of it,
-- and four more than a ten-thousandth of it, if that isn't 0.
pub length_digit : (n : ℕ) → n < 10 → length (decimal_text n) ≡ 1
length_digit n h = ap (λ t. length t) (text_digit n h)

pub length_pair : (n : ℕ) → 100 ≤ n → length (decimal_text n) ≡ length (decimal_text (n / 100)) + 2
length_pair n h = ap (λ t. length t) (text_pair n h) ∙ length-append (decimal_text (n / 100)) (pair (n % 100))

pub length_two : (n : ℕ) → 10 ≤ n → n < 100 → length (decimal_text n) ≡ 2
length_two n low high = ap (λ t. length t) (text_two n low high)

pub length_four : (n : ℕ) → 10000 ≤ n → length (decimal_text n) ≡ length (decimal_text (n / 10000)) + 4
length_four n h = ap (λ t. length t) (text_four n h) ∙ length-append (decimal_text (n / 10000)) (pair (n % 10000 / 100) ++ pair (n % 100))
