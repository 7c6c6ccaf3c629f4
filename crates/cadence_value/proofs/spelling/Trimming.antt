-- The zeros at the end of digits are a factor of the number that they say.
use Rattle.std.proofs.Common.{◌≡◌, ◌≢◌, ℕ, zero, suc, ◌+◌, ◌-◌, ◌*◌, ◌%◌, ◌^◌, ◌<◌, ◌≤◌, Bool, ℤ, List, [], ◌∷◌, ◌++◌, length, replicate, take}
use Rattle.std.proofs.Common.{get_or, refl, sym, ap, ap₂, ◌∙◌, subst, arith, Option, Some, None}
use Rattle.std.specs.Char.{digit_value}
use Rattle.std.specs.Str.Parse.{AllDigits, digits_value, digits_value_after}
use Rattle.std.proofs.lemmas.Int.Digits.{digits_value_more}
use Rattle.std.proofs.lemmas.List.{append-nil, append_assoc, take_all}
use Rattle.std.proofs.lemmas.Nat.{pow-add}
use Rattle.std.proofs.lemmas.Str.{digit_value_digit}
use Rattle.std.proofs.lemmas.Str.Parse.{digit_at}
use Rattle.std.proofs.Math.Nat.{mul_assoc}
use Rattle.cadence_value.proofs.reading.DigitRuns.{after_append, before_le, digits_join, digits_split, zeros_digits, zeros_value}
use Rattle.cadence_value.proofs.digits.PowersOfTen.{ten_to_pos}
use Rattle.cadence_value.specs.Digits.{EndsPlain, signed_integer}
use Rattle.cadence_value.specs.Finds.{Finds}
use Rattle.cadence_value.specs.Number.{IsDecimal, IsLowestForm, Number}
use Rattle.cadence_value.specs.SpelledNumber.{IsOfDigits, lowered_by, raised_by}
use Rattle.cadence_value.specs.Trimmed.{IsTrimmed}
use Rattle.cadence_value.proofs.spelling.Scaling.{size_fits}

zeros_join : (j k : ℕ) → replicate {A = ℕ} (j + k) 48 ≡ replicate j 48 ++ replicate k 48
zeros_join zero k = let none : 0 + k ≡ k = omega arith in ap (λ i. replicate {A = ℕ} i 48) none
zeros_join (suc j) k =
    let next : suc j + k ≡ suc (j + k) = omega arith in
    ap (λ i. replicate {A = ℕ} i 48) next ∙ ap (λ ds. 48 ∷ ds) (zeros_join j k)

-- If all digits after the dot are zeros, the zeros before the dot come before them.
pub both_trimmed : (w f v g : List ℕ) → length g ≡ 0 → w ≡ v ++ replicate (length w - length v) 48 → f ≡ g ++ replicate (length f - length g) 48
    → EndsPlain v → IsTrimmed w f (v ++ g) (length w - length v + length f)
both_trimmed w f v (d ∷ g) none p q plain = absurd (omega (arith, none))
both_trimmed w f v [] none p q plain =
    let a = length w - length v in
    let all : length f - 0 ≡ length f = omega arith in
    let zeros : f ≡ replicate (length f) 48 = q ∙ ap (λ k. replicate k 48) all in
    record {
      same = ap₂ (λ x y. x ++ y) p zeros ∙ append_assoc v (replicate a 48) (replicate (length f) 48)
          ∙ ap (λ ds. v ++ ds) (sym (zeros_join a (length f)))
          ∙ ap (λ ds. ds ++ replicate (a + length f) 48) (sym (append-nil v));
      plain = subst EndsPlain (sym (append-nil v)) plain;
    }

-- If digits don't end in a zero, neither does the number that they say, unless it is 0.
pub ends_plain : (ds : List ℕ) → AllDigits 10 ds → EndsPlain ds → digits_value 10 ds % 10 ≡ 0 → digits_value 10 ds ≡ 0
ends_plain [] digits plain none = refl
ends_plain (d ∷ ds) digits plain none =
    let i = length ds in
    let last = get_or (d ∷ ds) i 0 in
    let whole : take (i + 1) (d ∷ ds) ≡ d ∷ ds = take_all (i + 1) (d ∷ ds) (omega arith) in
    let value : digits_value 10 (d ∷ ds) ≡ digits_value 10 (take i (d ∷ ds)) * 10 + digit_value last =
    ap (digits_value 10) (sym whole) ∙ digits_value_more 10 (d ∷ ds) i (omega arith) in
    let at : length (d ∷ ds) - 1 ≡ i = omega arith in
    let other : last ≢ 48 = subst (λ k. get_or (d ∷ ds) k 0 ≢ 48) at (plain (omega arith)) in
    let digit = digit_at (d ∷ ds) i digits (omega arith) in
    absurd (other (omega (arith, none, value, digit, digit_value_digit last digit)))

module _ (below : Bool) (w f : List ℕ) (e : ℤ) (ds : List ℕ) (z : ℕ) (trimmed : IsTrimmed w f ds z) where
  all_of : AllDigits 10 (w ++ f) → AllDigits 10 ds
  all_of h = (digits_split ds (replicate z 48) (subst (AllDigits 10) trimmed.same h)).0

  all_back : AllDigits 10 ds → AllDigits 10 (w ++ f)
  all_back h = subst (AllDigits 10) (sym trimmed.same) (digits_join ds (replicate z 48) h (zeros_digits z))

  value_is : digits_value 10 (w ++ f) ≡ digits_value 10 ds * 10 ^ z
  value_is = ap (digits_value 10) trimmed.same ∙ after_append 0 ds (replicate z 48) ∙ zeros_value (digits_value 10 ds) z

  numerator : digits_value 10 (w ++ f) * 10 ^ raised_by e ≡ digits_value 10 ds * 10 ^ (z + raised_by e)
  numerator = ap (λ k. k * 10 ^ raised_by e) value_is ∙ mul_assoc (digits_value 10 ds) (10 ^ z) (10 ^ raised_by e)
      ∙ ap (λ k. digits_value 10 ds * k) (sym (pow-add 10 z (raised_by e)))

  -- the number in terms of the digits without their last zeros
  abbrev pub IsScaled : Number → Type 0
  IsScaled n = IsLowestForm (signed_integer below (digits_value 10 ds * 10 ^ (z + raised_by e))) (length f + lowered_by e) n

  scaled_of : (n : Number) → IsOfDigits below w f e n → IsScaled n
  scaled_of n h = subst (λ k. IsLowestForm (signed_integer below k) (length f + lowered_by e) n) numerator h.is

  pub scaled_back : (n : Number) → 0 < length (w ++ f) → AllDigits 10 ds → IsScaled n → IsOfDigits below w f e n
  scaled_back n some digits h = record {
    some = some;
    digits = all_back digits;
    is = subst (λ k. IsLowestForm (signed_integer below k) (length f + lowered_by e) n) (sym numerator) h;
  }

  -- The digits of a decimal without their last zeros fit 128 bits.
  pub fits : (n : Number) → IsDecimal n × IsOfDigits below w f e n → AllDigits 10 ds × (digits_value 10 ds < 2 ^ 128)
  fits n h = (all_of h.1.digits, by_size (digits_value 10 ds) refl)
    where
      at_most : (s k : ℕ) → 0 < k → s * k ≤ 2 ^ 127 → s ≤ 2 ^ 127
      at_most s zero some small = elim some [ ]
      at_most s (suc k) some small = omega (arith, small)

      by_size : (s : ℕ) → digits_value 10 ds ≡ s → digits_value 10 ds < 2 ^ 128
      by_size zero is = omega (arith, is)
      by_size (suc s) is =
          let some : digits_value 10 ds % 10 ≢ 0 = λ none. omega (arith, is, ends_plain ds (all_of h.1.digits) trimmed.plain none) in
          let power = z + raised_by e - (length f + lowered_by e) in
          omega (
            arith,
            at_most (digits_value 10 ds) (10 ^ power) (ten_to_pos power)
                (size_fits below (digits_value 10 ds) (z + raised_by e) (length f + lowered_by e) n some (h.0, scaled_of n h.1)),
          )

  -- What finds the number in terms of those digits finds the number of all digits.
  pub found_of : (r : Option Number) → 0 < length (w ++ f) → AllDigits 10 ds → Finds (λ n. IsDecimal n × IsScaled n) r
      → Finds (λ n. IsDecimal n × IsOfDigits below w f e n) r
  found_of (Some n) some digits h = (h.0, scaled_back n some digits h.1)
  found_of None some digits h = λ n k. h n (k.0, scaled_of n k.1)

-- The first digits fit 128 bits if all of them do.
pub front_fits : (xs ys : List ℕ) → AllDigits 10 (xs ++ ys) × (digits_value 10 (xs ++ ys) < 2 ^ 128) → AllDigits 10 xs × (digits_value 10 xs < 2 ^ 128)
front_fits xs ys h = ((digits_split xs ys h.0).0, omega (arith, h.1, before_le 0 xs ys))

pub later_fits : (xs ys : List ℕ) → AllDigits 10 (xs ++ ys) × (digits_value 10 (xs ++ ys) < 2 ^ 128)
    → AllDigits 10 ys × (digits_value_after 10 (digits_value 10 xs) ys < 2 ^ 128)
later_fits xs ys h = ((digits_split xs ys h.0).1, omega (arith, h.1, after_append 0 xs ys))
