-- The text of a number: different numbers have different texts, and every byte is a digit, a minus or a dot.
use Rattle.std.proofs.Common.{◌≡◌, ℕ, zero, suc, ◌-◌, ◌/◌, ◌%◌, ◌^◌, ◌<◌, ◌≤◌, ℤ, pos, negsuc, List, [], ◌∷◌, ◌++◌, length, replicate, refl}
use Rattle.std.proofs.Common.{sym, ap, ◌∙◌, arith, ltb, lit<, unsigned_abs, eqb, false, subst}
use Rattle.std.specs.List.{AllByRecursion}
use Rattle.std.specs.Int.{is_negative}
use Rattle.std.specs.Prelude.{if◌then◌else◌, codes}
use Rattle.std.specs.Str.Parse.{digits_value, AllDigits, IsNumeral}
use Rattle.std.proofs.lemmas.Str.Parse.{digit_from_value}
use Rattle.std.proofs.lemmas.List.{length-append, length-replicate}
use Rattle.std.proofs.lemmas.Bool.{lt-ltb, ne_eqb}
use Rattle.std.proofs.lemmas.Str.{IsUtf8-from_ascii}
use Rattle.std.proofs.lemmas.Str.Ascii.{IsAscii-cons, IsAscii-nil}
use Rattle.std.specs.Str.{IsAscii, IsUtf8}
use Rattle.std.proofs.lemmas.Grind.{common_steps}
use Rattle.std.proofs.Math.Nat.{div-add-mod, mod-lt}
use Rattle.cadence_value.specs.Number.{Number, decimal_text, number_text, places_text, padded_digits}
use Rattle.cadence_value.proofs.digits.PowersOfTen.{ten_to_pos}
use Rattle.cadence_value.proofs.digits.Digits.{decimal_text_once, length-decimal_text-le, text_numeral}
use Rattle.cadence_value.proofs.lists.SplitTexts.{cut_once, each_append, Stops, Passes}

-- Zeros in front of digits do not change their value.
digits_value-zeros : (k : ℕ) (ds : List ℕ) → digits_value 10 (replicate k 48 ++ ds) ≡ digits_value 10 ds
digits_value-zeros zero ds = refl
digits_value-zeros (suc k) ds = digits_value-zeros k ds

pub digits_zeros : (k : ℕ) (ds : List ℕ) → AllDigits 10 ds → AllDigits 10 (replicate k 48 ++ ds)
digits_zeros zero ds h = h
digits_zeros (suc k) ds h = (lit< tt, digits_zeros k ds h)

pub numeral : (n : ℕ) → IsNumeral 10 (decimal_text n)
numeral n = (text_numeral n).0

-- the digits after the dot
abbrev pub places_of : ℕ → ℕ → List ℕ
places_of n p = padded_digits p (decimal_text (n % 10 ^ p))

pub length-places_of : (n p : ℕ) → length (places_of n (suc p)) ≡ suc p
length-places_of n p =
    let r = n % 10 ^ suc p in
    let short : length (decimal_text r) ≤ suc p = length-decimal_text-le (suc p) r (omega arith) (mod-lt n (ten_to_pos (suc p))) in
    omega (
      arith,
      length-append (replicate (suc p - length (decimal_text r)) 48) (decimal_text r),
      length-replicate {A = ℕ}
          (suc p - length (decimal_text r)) 48,
    )

pub places_value : (n p : ℕ) → digits_value 10 (places_of n p) ≡ n % 10 ^ p
places_value n p =
    digits_value-zeros (p - length (decimal_text (n % 10 ^ p))) (decimal_text (n % 10 ^ p)) ∙ (text_numeral (n % 10 ^ p)).1

pub places_text-suc : (n p : ℕ) → places_text n (suc p) ≡ 46 ∷ places_of n (suc p)
places_text-suc n p = let some : eqb (suc p) 0 ≡ false = ne_eqb (suc p) 0 (λ e. omega arith) in rw some

-- A text of digits passes the test for digits.
passes_digits : (ds : List ℕ) → AllDigits 10 ds → Passes (λ b. ltb 47 b) ds
passes_digits [] h = tt
passes_digits (d ∷ ds) (h, hs) = (lt-ltb 47 d (digit_from_value d h).0, passes_digits ds hs)

stops_places : (n p : ℕ) → Stops (λ b. ltb 47 b) (places_text n p)
stops_places n zero = tt
stops_places n (suc p) = rw (places_text-suc n p) refl

places_once : (m n p q : ℕ) → places_text m p ≡ places_text n q → (p ≡ q) × (m % 10 ^ p ≡ n % 10 ^ q)
places_once m n zero zero e = (refl, omega arith)
places_once m n zero (suc q) e = let text = e ∙ places_text-suc n q in absurd cc
places_once m n (suc p) zero e = let text = sym e ∙ places_text-suc m p in absurd cc
places_once m n (suc p) (suc q) e =
    let text = sym (places_text-suc m p) ∙ e ∙ places_text-suc n q in
    let same : places_of m (suc p) ≡ places_of n (suc q) = cc in (
      omega (arith, ap length same, length-places_of m p, length-places_of n q),
      sym (places_value m (suc p)) ∙ ap (digits_value 10) same
          ∙ places_value n (suc q),
    )

-- the text of a magnitude and its places
abbrev pub unsigned_text : ℕ → ℕ → List ℕ
unsigned_text n p = decimal_text (n / 10 ^ p) ++ places_text n p

pub unsigned_once : (m n p q : ℕ) → unsigned_text m p ≡ unsigned_text n q → (m ≡ n) × (p ≡ q)
unsigned_once m n p q e =
    let (whole, rest) =
    cut_once (λ b. ltb 47 b) (decimal_text (m / 10 ^ p)) (decimal_text (n / 10 ^ q)) (places_text m p) (places_text n q)
    (passes_digits (decimal_text (m / 10 ^ p)) (numeral (m / 10 ^ p)).1)
    (passes_digits (decimal_text (n / 10 ^ q)) (numeral (n / 10 ^ q)).1) (stops_places m p) (stops_places n q) e in
    let (places, rests) = places_once m n p q rest in
    let quotients : m / 10 ^ p ≡ n / 10 ^ q = decimal_text_once (m / 10 ^ p) (n / 10 ^ q) whole in
    let scales : 10 ^ p ≡ 10 ^ q = ap (λ k. 10 ^ k) places in
    (sym (div-add-mod m (10 ^ p)) ∙ cc (scales, quotients, rests) ∙ div-add-mod n (10 ^ q), places)

-- a minus if the number is below zero, and otherwise nothing
abbrev pub sign : ℤ → List ℕ
sign z = if is_negative z then codes "-" else []

pub sign-pos : (n : ℕ) → sign (pos n) ≡ []
sign-pos n = grind (arith, common_steps)

after_sign : (n p : ℕ) → unsigned_text n p ≡ sign (pos n) ++ unsigned_text n p
after_sign n p = ap (λ t. t ++ unsigned_text n p) (sym (sign-pos n))

pub no_minus : (ds t u : List ℕ) → IsNumeral 10 ds → ds ++ t ≡ 45 ∷ u → ⊥
no_minus [] t u (some, digits) e = absurd (omega arith)
no_minus (d ∷ ds) t u (some, (digit, digits)) e = let h : d ≡ 45 = cc in absurd (omega (arith, (digit_from_value d digit).0))

signed_once : (y z : ℤ) (p q : ℕ) → sign y ++ unsigned_text (unsigned_abs y) p ≡ sign z ++ unsigned_text (unsigned_abs z) q → (y ≡ z) × (p ≡ q)
signed_once (pos m) (pos n) p q e =
    let texts = after_sign m p ∙ e ∙ sym (after_sign n q) in
    let (size, places) = unsigned_once m n p q texts in (ap pos size, places)
signed_once (pos m) (negsuc n) p q e =
    absurd (no_minus (decimal_text (m / 10 ^ p)) (places_text m p) (unsigned_text (suc n) q) (numeral (m / 10 ^ p)) (after_sign m p ∙ e))
signed_once (negsuc m) (pos n) p q e =
    absurd (no_minus (decimal_text (n / 10 ^ q)) (places_text n q) (unsigned_text (suc m) p) (numeral (n / 10 ^ q)) (after_sign n q ∙ sym e))
signed_once (negsuc m) (negsuc n) p q e =
    let rest : unsigned_text (suc m) p ≡ unsigned_text (suc n) q = cc in
    let (size, places) = unsigned_once (suc m) (suc n) p q rest in (ap negsuc (omega arith), places)

-- Two numbers in lowest form with the same text are the same number.
pub number_once : (a b : Number) → number_text a ≡ number_text b → a ≡ b
number_once a b e =
    let (mantissa, places) = signed_once a.mantissa b.mantissa a.places b.places e in
    λ i. record { mantissa = mantissa i; places = places i }

-- Each byte of a number's text is a digit, a minus or a dot.
abbrev pub IsNumberByte : ℕ → Type 0
IsNumberByte b = (44 < b) × (b < 58)

digits_bytes : (ds : List ℕ) → AllDigits 10 ds → AllByRecursion IsNumberByte ds
digits_bytes [] h = tt
digits_bytes (d ∷ ds) (h, hs) = let (low, high) = digit_from_value d h in ((omega arith, omega arith), digits_bytes ds hs)

places_bytes : (n p : ℕ) → AllByRecursion IsNumberByte (places_text n p)
places_bytes n zero = tt
places_bytes n (suc p) =
    let r = n % 10 ^ suc p in
    subst (λ t. AllByRecursion IsNumberByte t) (sym (places_text-suc n p))
    ((lit< tt, lit< tt), digits_bytes (places_of n (suc p)) (digits_zeros (suc p - length (decimal_text r)) (decimal_text r) (numeral r).1))

sign_bytes : (z : ℤ) → AllByRecursion IsNumberByte (sign z)
sign_bytes (pos n) = subst (λ t. AllByRecursion IsNumberByte t) (sym (sign-pos n)) tt
sign_bytes (negsuc n) = ((lit< tt, lit< tt), tt)

pub decimal_bytes : (n : ℕ) → AllByRecursion IsNumberByte (decimal_text n)
decimal_bytes n = digits_bytes (decimal_text n) (numeral n).1

pub number_bytes : (a : Number) → AllByRecursion IsNumberByte (number_text a)
number_bytes a =
    let n = unsigned_abs a.mantissa in
    each_append IsNumberByte (sign a.mantissa) (unsigned_text n a.places) (sign_bytes a.mantissa)
    (each_append IsNumberByte (decimal_text (n / 10 ^ a.places)) (places_text n a.places) (decimal_bytes (n / 10 ^ a.places))
    (places_bytes n a.places))

bytes_ascii : (bs : List ℕ) → AllByRecursion IsNumberByte bs → IsAscii bs
bytes_ascii [] h = IsAscii-nil
bytes_ascii (b ∷ bs) ((_, high), hs) = IsAscii-cons b bs (omega arith) (bytes_ascii bs hs)

pub number_utf8 : (a : Number) → IsUtf8 (number_text a)
number_utf8 a = IsUtf8-from_ascii (number_text a) (bytes_ascii (number_text a) (number_bytes a))

pub number_some : (a : Number) → 0 < length (number_text a)
number_some a =
    let n = unsigned_abs a.mantissa in
    let some : 0 < length (decimal_text (n / 10 ^ a.places)) = (numeral (n / 10 ^ a.places)).0 in
    omega (
      arith,
      length-append (sign a.mantissa) (unsigned_text n a.places),
      length-append (decimal_text (n / 10 ^ a.places))
          (places_text n a.places),
    )
