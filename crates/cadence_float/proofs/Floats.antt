-- A decimal's text is read as the float nearest to the number.
use Rattle.std.proofs.Common.{◌≡◌, ◌≢◌, ℕ, zero, suc, ◌+◌, ◌-◌, ◌*◌, ◌/◌, ◌%◌, ◌^◌, ◌<◌, ◌≤◌, ℤ, pos, negsuc, ◌*ℤ◌, Bool, true, false, not, List, [], ◌∷◌, ◌++◌, length, get_or, refl, sym, ap, ap₂, ◌∙◌, subst, arith, Option, Some, None, Result, Ok, Err, unsigned_abs, inl, inr}
use Rattle.std.specs.Prelude.{codes, if◌then◌else◌, IfSome, IfOk, ◌⊎◌}
use Rattle.std.specs.Result.{result_ok}
use Rattle.std.specs.Int.{is_negative}
use Rattle.std.specs.Fmt.{sign_text}
use Rattle.std.specs.Str.Parse.{digits_value, AllDigits}
use Rattle.std.proofs.lemmas.List.{append-nil, length-append}
use Rattle.std.proofs.lemmas.Nat.{div-add-mod', pow-add}
use Rattle.std.proofs.lemmas.Int.{unsigned_abs-mul}
use Rattle.std.proofs.lemmas.Grind.{common_steps}
use Rattle.std.proofs.Math.Nat.{mul_assoc, mul_right_comm, le-mul_of_pos_right}
use Rattle.std.proofs.lemmas.Option.{same_Some}
use Rattle.std.specs.Float.Numeral.{exponent_text, Parts, text_of, IsWellFormed, nearest_float, numeral_digits, tens_up, tens_down, scan_numeral}
use Rattle.std.specs.Float.Parse.{parse_float}
use lib.Ieee.{Float, Format, binary64, round, odd, units, is_nan, nan, inf, fin, prec, low, fits, to_bits, of_bits}
use lib.Ieee.Bits.{of_bits-to_bits}
use lib.Dec.{T}
use mathlib.Core.Bool.{cond}
use lib.Ieee.Scale.{round_same}
use Rattle.fast_float.proofs.Writing.{scan-text_of, parse_float-text_of}
use Rattle.fast_float.proofs.DigitsLemmas.{digits_value-append}
use Rattle.ryu.specs.Plain.{IsLaidOut, IsLaidOutNumber, IsPlain}
use Rattle.cadence_value.specs.Number.{IsLowestForm, Number, number_text, decimal_text, places_text}
use Rattle.cadence_value.proofs.digits.PowersOfTen.{ten_to_pos, neg_product}
use Rattle.cadence_value.proofs.reading.SignedDigits.{side_signed}
use Rattle.cadence_value.proofs.digits.Digits.{text_numeral}
use Rattle.cadence_value.proofs.digits.NumberText.{numeral, places_of, places_text-suc, length-places_of, places_value, digits_zeros, no_minus}
use Rattle.cadence_float.specs.Worth.{AreNearest, IsCutOf, IsNumberOfDigits, HasSignAndSize, IsTextOf, IsTooLarge, IsUnfit, IsWorthOf}

-- the parts of a decimal's text
abbrev parts_at : List ℕ → Bool → List ℕ → Parts
parts_at w point f = record { whole = w; point = point; fraction = f; exponent_negative = false; exponent = []; len = length (w ++ ((if point then 46 ∷ f else []) ++ [])) }

abbrev parts_of : ℕ → ℕ → Parts
parts_of n zero = parts_at (decimal_text (n / 10 ^ 0)) false []
parts_of n (suc q) = parts_at (decimal_text (n / 10 ^ suc q)) true (places_of n (suc q))

parts_text : (n p : ℕ) → decimal_text (n / 10 ^ p) ++ places_text n p ≡ text_of (parts_of n p)
parts_text n zero = refl
parts_text n (suc q) = ap (λ t. decimal_text (n / 10 ^ suc q) ++ t) (places_text-suc n q ∙ ap (λ t. 46 ∷ t) (sym (append-nil (places_of n (suc q)))))

places_digits : (n p : ℕ) → AllDigits 10 (places_of n p)
places_digits n p = digits_zeros (p - length (decimal_text (n % 10 ^ p))) (decimal_text (n % 10 ^ p)) (numeral (n % 10 ^ p)).1

parts_formed : (n p : ℕ) → IsWellFormed (parts_of n p)
parts_formed n zero = record { whole_digits = (numeral (n / 10 ^ 0)).1; fraction_digits = tt; exponent_digits = tt; no_point = λ _. refl; no_exponent = λ _. refl; len_is = refl }
parts_formed n (suc q) = record { whole_digits = (numeral (n / 10 ^ suc q)).1; fraction_digits = places_digits n (suc q); exponent_digits = tt; no_point = λ e. (let bad : true ≡ false = e in absurd cc); no_exponent = λ _. refl; len_is = refl }

parts_some : (n p : ℕ) → 0 < length (parts_of n p).whole
parts_some n zero = (numeral (n / 10 ^ 0)).0
parts_some n (suc q) = (numeral (n / 10 ^ suc q)).0

parts_worth : (s : Bool) (n p : ℕ) → nearest_float binary64 s (parts_of n p) ≡ round binary64 s n (10 ^ p)
parts_worth s n zero =
    let one : n / 10 ^ 0 ≡ n = omega arith in
    let whole : digits_value 10 (decimal_text (n / 10 ^ 0) ++ []) ≡ n = ap (λ (t : List ℕ). digits_value 10 t) (append-nil (decimal_text (n / 10 ^ 0))) ∙ (text_numeral (n / 10 ^ 0)).1 ∙ one in
    ap₂ (λ a b. round binary64 s a b) (omega (arith, whole)) refl
parts_worth s n (suc q) =
    let p = suc q in
    let w = decimal_text (n / 10 ^ p) in
    let f = places_of n p in
    let joined : digits_value 10 (w ++ f) ≡ n =
    digits_value-append w f ∙ ap₂ (λ a k. a * 10 ^ k + digits_value 10 f) (text_numeral (n / 10 ^ p)).1 (length-places_of n q) ∙ ap (λ x. n / 10 ^ p * 10 ^ p + x) (places_value n p) ∙ div-add-mod' n (10 ^ p) in
    let down : length f + 0 ≡ p = omega (arith, length-places_of n q) in
    ap₂ (λ a k. round binary64 s a (10 ^ k)) (omega (arith, joined)) down

sign_is : (s : Bool) → (if s then codes "-" else []) ≡ sign_text s
sign_is true = refl
sign_is false = refl

pub parse_of_number : (n : Number) → parse_float binary64 (number_text n) ≡ Some (round binary64 (is_negative n.mantissa) (unsigned_abs n.mantissa) (10 ^ n.places))
parse_of_number n =
    let s = is_negative n.mantissa in
    let m = unsigned_abs n.mantissa in
    ap (parse_float binary64) (ap₂ (λ a b. a ++ b) (sign_is s) (parts_text m n.places))
    ∙ parse_float-text_of binary64 s (parts_of m n.places) (parts_formed m n.places) (parts_some m n.places)
    ∙ ap Some (parts_worth s m n.places)

-- The text of a number that is worth what is rounded to a float is read as that float.
pub reads_as : (s : Bool) (digits up down : ℕ) (n : Number) (x : Float) → IsWorthOf s digits up down n → round binary64 s (digits * 10 ^ up) (10 ^ down) ≡ x
    → parse_float binary64 (number_text n) ≡ Some x
reads_as s digits up down n x worth e =
    let m = unsigned_abs n.mantissa in
    parse_of_number n ∙ ap Some (ap (λ b. round binary64 b m (10 ^ n.places)) worth.sign
    ∙ round_same binary64 s m (10 ^ n.places) (digits * 10 ^ up) (10 ^ down) (ten_to_pos n.places) (ten_to_pos down) worth.worth ∙ e)

abs_pos_product : (z : ℤ) (k : ℕ) → unsigned_abs (z *ℤ pos k) ≡ unsigned_abs z * k
abs_pos_product z k = unsigned_abs-mul z (pos k)

sign_product : (z : ℤ) (k : ℕ) → 0 < k → is_negative (z *ℤ pos k) ≡ is_negative z
sign_product (pos n) k some = grind (arith, common_steps)
sign_product (negsuc n) zero some = absurd (omega arith)
sign_product (negsuc n) (suc k) some = ap is_negative (neg_product (suc n) (suc k)) ∙ side_signed true (suc n * suc k) (λ _. omega (arith, le-mul_of_pos_right {m = suc k} (suc n) (omega arith)))

-- The lowest form of an integer of this sign and size over a power of ten.
pub lowest_worth : (s : Bool) (size p : ℕ) (z : ℤ) (n : Number) → HasSignAndSize s size z → IsLowestForm z p n
    → (is_negative n.mantissa ≡ s) × (unsigned_abs n.mantissa * 10 ^ p ≡ size * 10 ^ n.places)
lowest_worth s size p z n is low =
    let m = unsigned_abs n.mantissa in
    let cut : m * 10 ^ (p - n.places) ≡ size = sym (abs_pos_product n.mantissa (10 ^ (p - n.places))) ∙ ap unsigned_abs (sym low.same) ∙ is.size_is in
    let split : 10 ^ p ≡ 10 ^ (p - n.places) * 10 ^ n.places = ap (λ k. 10 ^ k) (omega (arith, low.fewer)) ∙ pow-add 10 (p - n.places) n.places in (
      sym (sign_product n.mantissa (10 ^ (p - n.places)) (ten_to_pos (p - n.places))) ∙ ap is_negative (sym low.same) ∙ is.sign,
      ap (λ k. m * k) split ∙ sym (mul_assoc m (10 ^ (p - n.places)) (10 ^ n.places)) ∙ ap (λ k. k * 10 ^ n.places) cut,
    )

pub worth_below : (s : Bool) (digits up down : ℕ) (z : ℤ) (n : Number) → up ≤ down → HasSignAndSize s digits z → IsLowestForm z (down - up) n → IsWorthOf s digits up down n
worth_below s digits up down z n few is low =
    let (sign, same) = lowest_worth s digits (down - up) z n is low in
    let m = unsigned_abs n.mantissa in
    let split : 10 ^ down ≡ 10 ^ (down - up) * 10 ^ up = ap (λ k. 10 ^ k) (omega arith) ∙ pow-add 10 (down - up) up in
    record {
      sign = sign;
      worth = ap (λ k. m * k) split ∙ sym (mul_assoc m (10 ^ (down - up)) (10 ^ up)) ∙ ap (λ k. k * 10 ^ up) same ∙ mul_right_comm digits (10 ^ n.places) (10 ^ up);
    }

pub worth_above : (s : Bool) (digits up down : ℕ) (z : ℤ) (n : Number) → down ≤ up → HasSignAndSize s (digits * 10 ^ (up - down)) z → IsLowestForm z 0 n → IsWorthOf s digits up down n
worth_above s digits up down z n few is low =
    let (sign, same) = lowest_worth s (digits * 10 ^ (up - down)) 0 z n is low in
    let m = unsigned_abs n.mantissa in
    let split : 10 ^ up ≡ 10 ^ (up - down) * 10 ^ down = ap (λ k. 10 ^ k) (omega arith) ∙ pow-add 10 (up - down) down in
    let one : m ≡ digits * 10 ^ (up - down) * 10 ^ n.places = omega (arith, same) in
    record {
      sign = sign;
      worth = ap (λ k. k * 10 ^ down) one ∙ mul_right_comm (digits * 10 ^ (up - down)) (10 ^ n.places) (10 ^ down)
          ∙ ap (λ k. k * 10 ^ n.places) (mul_assoc digits (10 ^ (up - down)) (10 ^ down) ∙ ap (λ k. digits * k) (sym split));
    }

cons_tail : (a b : ℕ) (xs ys : List ℕ) → a ∷ xs ≡ b ∷ ys → xs ≡ ys
cons_tail a b xs ys e = cc

-- A text that begins with a minus or not, cut at that minus, is the text of the parts.
cut_is : (t s : Bool) (size : List ℕ) (p : Parts) (text : List ℕ) → IsPlain p → text ≡ (if t then codes "-" else []) ++ size → (t ≡ false → get_or text 0 0 ≢ 45)
    → text ≡ sign_text s ++ text_of p → (t ≡ s) × (size ≡ text_of p)
cut_is true true size p text plain cut first e = (refl, cons_tail 45 45 size (text_of p) (sym cut ∙ e))
cut_is false false size p text plain cut first e = (refl, sym cut ∙ e)
cut_is false true size p text plain cut first e = absurd (first refl (ap (λ (l : List ℕ). get_or l 0 0) e))
cut_is true false size p text plain cut first e =
    absurd (no_minus p.whole ((if p.point then 46 ∷ p.fraction else []) ++ exponent_text p.exponent_negative p.exponent) size (plain.whole, plain.well_formed.whole_digits) (sym e ∙ cut))

exponent_in : (negative : Bool) (exponent : List ℕ) → length exponent ≤ length (exponent_text negative exponent)
exponent_in negative [] = omega arith
exponent_in true (d ∷ ds) = omega arith
exponent_in false (d ∷ ds) = omega arith

-- The exponent of a numeral is no longer than its text.
pub exponent_short : (p : Parts) → length p.exponent ≤ length (text_of p)
exponent_short p =
    let point = if p.point then 46 ∷ p.fraction else [] in
    let tail = exponent_text p.exponent_negative p.exponent in
    omega (arith, exponent_in p.exponent_negative p.exponent, length-append point tail, length-append p.whole (point ++ tail))

-- A text in the layout of `ryu` that is read as the float, cut at its minus, is a numeral of the float.
pub printed : (t : Bool) (size text : List ℕ) (x : Float) → IsLaidOutNumber 16 4 text → parse_float binary64 text ≡ Some x → length text ≤ 25 → text ≡ (if t then codes "-" else []) ++ size
    → (t ≡ false → get_or text 0 0 ≢ 45) → IsTextOf x t (scan_numeral size)
printed t size text x (s, body, is, (p, is_text, plain, layout)) reads short cut first =
    let whole : text ≡ sign_text s ++ text_of p = is ∙ ap (λ b. sign_text s ++ b) is_text in
    let (signs, parts) = cut_is t s size p text plain cut first whole in
    let scanned : scan_numeral size ≡ p = ap scan_numeral parts ∙ scan-text_of p plain.well_formed in
    let read : Some (nearest_float binary64 s p) ≡ Some x = sym (parse_float-text_of binary64 s p plain.well_formed plain.whole) ∙ ap (parse_float binary64) (sym whole) ∙ reads in
    let value : nearest_float binary64 t (scan_numeral size) ≡ x = ap₂ (λ b q. nearest_float binary64 b q) signs scanned ∙ same_Some (nearest_float binary64 s p) x read in
    let joined : length text ≡ length (sign_text s) + length (text_of p) = ap (λ (l : List ℕ). length l) whole ∙ length-append (sign_text s) (text_of p) in
    let few : length (text_of p) ≤ 25 = omega (arith, short, joined) in
    record {
      plain = subst (λ q. IsPlain q) (sym scanned) plain;
      layout = subst (λ q. IsLaidOut 16 4 q) (sym scanned) layout;
      short = subst (λ q. length (text_of q) ≤ 25) (sym scanned) few;
      value = value;
    }

-- What is so of a result's value is so of the option of it.
pub some_of_ok : {X E : Type 0} (P Q : X → Type 0) (r : Result X E) (o : Option X) → o ≡ result_ok r → IfOk r P → ((x : X) → P x → Q x) → IfSome o Q
some_of_ok P Q (Ok x) o e ok step = subst (λ k. IfSome k Q) (sym e) (step x ok)
some_of_ok P Q (Err x) o e ok step = subst (λ k. IfSome k Q) (sym e) tt

-- The parts that were scanned of such a text.
pub text_parts : (t : Bool) (size text : List ℕ) (x : Float) (p : Parts) → p ≡ scan_numeral size → IsLaidOutNumber 16 4 text → parse_float binary64 text ≡ Some x → length text ≤ 25
    → text ≡ (if t then codes "-" else []) ++ size → (t ≡ false → get_or text 0 0 ≢ 45) → IsTextOf x t p
text_parts t size text x p e layout reads short cut first = subst (λ q. IsTextOf x t q) (sym e) (printed t size text x layout reads short cut first)

-- The digits before the point and after it.
pub all_digits : (p : Parts) (front digits : ℕ) → front ≡ 0 * 10 ^ length p.whole + digits_value 10 p.whole → digits ≡ front * 10 ^ length p.fraction + digits_value 10 p.fraction → digits ≡ numeral_digits p
all_digits p front digits before e =
    let whole : front ≡ digits_value 10 p.whole = omega (arith, before) in
    e ∙ ap (λ k. k * 10 ^ length p.fraction + digits_value 10 p.fraction) whole ∙ sym (digits_value-append p.whole p.fraction)

-- The number of a float's numeral is read as the float, or it is the numeral's, rounded to 30 places.
pub number_of_text : (x : Float) (t : Bool) (p : Parts) (digits up down : ℕ) (n : Number) → IsTextOf x t p → digits ≡ numeral_digits p → up ≡ tens_up p → down ≡ tens_down p
    → IsNumberOfDigits t digits up down n → (parse_float binary64 (number_text n) ≡ Some x) ⊎ IsCutOf n x
number_of_text x t p digits up down n is d u w (inl worth) =
    inl (reads_as t digits up down n x worth (ap₂ (λ a b. round binary64 t a (10 ^ b)) (ap₂ (λ a b. a * 10 ^ b) d u) w ∙ is.value))
number_of_text x t p digits up down n is d u w (inr (many, (size, near, lowest))) =
    let gap : down - up ≡ tens_down p - tens_up p = ap₂ (λ (a b : ℕ). a - b) w u in
    let same : AreNearest (numeral_digits p) (down - up - 30) size = subst (λ k. AreNearest k (down - up - 30) size) d near in
    inr (t, p, is, subst (λ k. 30 < k) gap many, (size, subst (λ k. AreNearest (numeral_digits p) (k - 30) size) gap same, lowest))

-- If the number of a float's numeral doesn't fit, the float is too large.
pub too_large : (x : Float) (t : Bool) (p : Parts) (digits up down : ℕ) → IsTextOf x t p → digits ≡ numeral_digits p → up ≡ tens_up p → down ≡ tens_down p → IsUnfit digits up down → IsTooLarge x
too_large x t p digits up down is d u w unfit =
    let first : IsUnfit (numeral_digits p) up down = subst (λ k. IsUnfit k up down) d unfit in
    let second : IsUnfit (numeral_digits p) (tens_up p) down = subst (λ k. IsUnfit (numeral_digits p) k down) u first in
    inr (t, p, is, subst (λ k. IsUnfit (numeral_digits p) (tens_up p) k) w second)

pub some_weaker : {X : Type 0} (P Q : X → Type 0) (o : Option X) → IfSome o P → ((x : X) → P x → Q x) → IfSome o Q
some_weaker P Q (Some x) h step = step x h
some_weaker P Q None h step = tt

odd_number : (d : ℕ) (s : Bool) (q k l : ℕ) → is_nan (odd d s q k l) ≡ false
unfolding odd is_nan
odd_number d s zero k l = refl
odd_number d s (suc q) k l = refl

or_inf : (b s : Bool) (x : Float) → is_nan x ≡ false → is_nan (cond b x (inf s)) ≡ false
unfolding is_nan
or_inf true s x e = e
or_inf false s x e = refl

units_number : (f : Format) (s : Bool) (q k : ℕ) → is_nan (units f s q k) ≡ false
unfolding units
units_number f s q k = or_inf _ s _ (odd_number (suc (prec f)) s q k (low f))

-- A rounded number is no NaN.
pub round_number : (f : Format) (s : Bool) (a b : ℕ) → is_nan (round f s a b) ≡ false
unfolding round
round_number f s a b = units_number f s _ _

-- Two floats with the same bits are one float.
pub same_bits : (x y : Float) → T (fits binary64 x) → T (fits binary64 y) → to_bits binary64 x ≡ to_bits binary64 y → x ≡ y
same_bits x y p q e = sym (of_bits-to_bits binary64 x p) ∙ ap (of_bits binary64) e ∙ of_bits-to_bits binary64 y q

pub number_from : (x : Float) → is_nan x ≡ false → T (not (is_nan x))
unfolding is_nan
number_from nan e = absurd cc
number_from (inf s) e = tt
number_from (fin s m d) e = tt
