-- The text that a number prints as says the number.
use Rattle.std.proofs.Common.{◌≡◌, ℕ, zero, suc, ◌+◌, ◌-◌, ◌*◌, ◌/◌, ◌%◌, ◌^◌, Bool, true, false, cond, ℤ, pos, negsuc, neg_ℤ, ◌*ℤ◌, unsigned_abs}
use Rattle.std.proofs.Common.{List, [], ◌∷◌, ◌++◌, length, drop, refl, sym, ap, ap₂, ◌∙◌, subst, inl, inr, eqb, arith}
use Rattle.std.specs.Str.Parse.{AllDigits, IsNumeral, digits_value, starts_with_minus, without_leading_sign}
use Rattle.std.proofs.lemmas.Bool.{ne_eqb}
use Rattle.std.proofs.lemmas.List.{append-nil, length-append}
use Rattle.std.proofs.lemmas.Nat.{div-add-mod'}
use Rattle.std.proofs.lemmas.Str.Parse.{digit_from_value}
use Rattle.cadence_value.proofs.digits.Digits.{text_numeral}
use Rattle.cadence_value.proofs.reading.DigitRuns.{after_append, after_value, digits_join}
use Rattle.cadence_value.proofs.digits.NumberText.{digits_zeros, length-places_of, numeral, places_of, places_text-suc, places_value, sign-pos, unsigned_text}
use Rattle.cadence_value.specs.Digits.{signed_integer}
use Rattle.cadence_value.specs.Number.{IsDecimal, Number, decimal_text, number, number_text, places_text}
use Rattle.cadence_value.specs.SpelledNumber.{IsDotted, SaysNumber, SaysUnsigned}

-- the digits after the dot of a number of this size and these places
fraction : ℕ → ℕ → List ℕ
fraction n zero = []
fraction n (suc p) = places_of n (suc p)

length-fraction : (n p : ℕ) → length (fraction n p) ≡ p
unfolding fraction
length-fraction n zero = refl
length-fraction n (suc p) = length-places_of n p

fraction_digits : (n p : ℕ) → AllDigits 10 (fraction n p)
unfolding fraction
fraction_digits n zero = tt
fraction_digits n (suc p) =
    let r = n % 10 ^ suc p in
    digits_zeros (suc p - length (decimal_text r)) (decimal_text r) (numeral r).1

fraction_value : (n p : ℕ) → digits_value 10 (fraction n p) ≡ n % 10 ^ p
unfolding fraction
fraction_value n zero = omega arith
fraction_value n (suc p) = places_value n (suc p)

abbrev whole_of : ℕ → ℕ → List ℕ
whole_of n p = decimal_text (n / 10 ^ p)

is_dotted : (n p : ℕ) → IsDotted (unsigned_text n p) (whole_of n p) (fraction n p)
unfolding fraction decimal_text
is_dotted n zero = inr (append-nil (whole_of n zero), refl)
is_dotted n (suc p) = inl (ap (λ t. whole_of n (suc p) ++ t) (places_text-suc n p))

-- All digits together are the size of the number.
value : (n p : ℕ) → digits_value 10 (whole_of n p ++ fraction n p) ≡ n
value n p =
    let w = whole_of n p in
    let f = fraction n p in
    after_append 0 w f ∙ after_value (digits_value 10 w) f
    ∙ ap₂ (λ a k. a * 10 ^ k + digits_value 10 f) (text_numeral (n / 10 ^ p)).1 (length-fraction n p)
    ∙ ap (λ r. n / 10 ^ p * 10 ^ p + r) (fraction_value n p)
    ∙ div-add-mod' n (10 ^ p)

one : (z : ℤ) → z ≡ z *ℤ pos 1
one (pos n) = let alone : n ≡ n * 1 = omega arith in ap pos alone
one (negsuc n) = let alone : suc n ≡ suc n * 1 = omega arith in ap (λ k. neg_ℤ (pos k)) alone

-- The text without its sign says the number with that sign.
unsigned_says : (below : Bool) (n : Number) → IsDecimal n → signed_integer below (unsigned_abs n.mantissa) ≡ n.mantissa
    → SaysUnsigned below (unsigned_text (unsigned_abs n.mantissa) n.places) n
unsigned_says below n good signed =
    let m = unsigned_abs n.mantissa in
    let p = n.places in
    let w = whole_of m p in
    let f = fraction m p in
    let count = length-fraction m p in
    let none : length f + 0 - p ≡ 0 = omega (arith, count) in
    let size : digits_value 10 (w ++ f) * 1 ≡ m = omega (arith, value m p) in
    record {
      front = unsigned_text m p;
      whole = w;
      fraction = f;
      exponent = pos 0;
      raised = inr (refl, refl);
      dotted = is_dotted m p;
      is = record {
        some = omega (arith, length-append w f, (numeral (m / 10 ^ p)).0);
        digits = digits_join w f (numeral (m / 10 ^ p)).1 (fraction_digits m p);
        is = record {
          fewer = omega (arith, count);
          same = ap (signed_integer below) size ∙ signed ∙ one n.mantissa ∙ ap (λ k. n.mantissa *ℤ pos (10 ^ k)) (sym none);
          lowest = good.lowest;
        };
      };
    }

-- A text that begins with a digit has no sign.
no_sign : (ds t : List ℕ) → IsNumeral 10 ds → (starts_with_minus (ds ++ t) ≡ false) × (without_leading_sign (ds ++ t) ≡ ds ++ t)
no_sign [] t (some, digits) = absurd (omega (arith, some))
no_sign (d ∷ ds) t (some, (digit, digits)) =
    let low = (digit_from_value d digit).0 in
    let minus : eqb d 45 ≡ false = ne_eqb d 45 (λ e. omega (arith, e, low)) in
    let plus : eqb d 43 ≡ false = ne_eqb d 43 (λ e. omega (arith, e, low)) in
    (minus, ap₂ (λ a b. cond a (ds ++ t) (drop (cond b 1 0) (d ∷ ds ++ t))) minus plus)

text_says : (z : ℤ) (p : ℕ) → IsDecimal (number z p) → SaysNumber (number_text (number z p)) (number z p)
text_says (pos m) p good =
    let n = number (pos m) p in
    let u = unsigned_text m p in
    let text : number_text n ≡ u = ap (λ t. t ++ u) (sign-pos m) in
    let (minus, rest) = no_sign (whole_of m p) (places_text m p) (numeral (m / 10 ^ p)) in
    subst (λ t. SaysNumber t n) (sym text)
    (subst (λ b. SaysUnsigned b (without_leading_sign u) n) (sym minus)
    (subst (λ t. SaysUnsigned false t n) (sym rest) (unsigned_says false n good refl)))
text_says (negsuc m) p good = unsigned_says true (number (negsuc m) p) good refl

-- A decimal that prints as a text is the number that the text says.
pub own_text : (text : List ℕ) (n : Number) → IsDecimal n → number_text n ≡ text → SaysNumber text n
own_text text n good shown = subst (λ t. SaysNumber t n) shown (text_says n.mantissa n.places good)
