-- A text says at most one number.
use Rattle.std.proofs.Common.{◌≡◌, ℕ, zero, suc, ◌+◌, ◌-◌, ◌*◌, ◌/◌, ◌%◌, ◌^◌, ◌<◌, ℤ, pos, negsuc, neg_ℤ, ◌*ℤ◌}
use Rattle.std.proofs.Common.{unsigned_abs, Err, List, [], ◌∷◌, refl, sym, ap, ◌∙◌, subst, lit<, arith}
use Rattle.std.proofs.lemmas.Int.{unsigned_abs-mul}
use Rattle.std.proofs.lemmas.Nat.{div-mul-add, pow-add}
use Rattle.std.proofs.Math.Nat.{le-mul_of_pos_right, mul_assoc, pow-succ'}
use Rattle.cadence_value.proofs.digits.NumberText.{IsNumberByte, number_bytes, number_once}
use Rattle.cadence_value.proofs.digits.PowersOfTen.{ten_to_pos}
use Rattle.cadence_value.proofs.reading.SignedDigits.{last_place}
use Rattle.cadence_value.specs.Number.{IsDecimal, IsLowestForm, Number, number}
use Rattle.cadence_value.specs.DenotedNumber.{ReadsDecimal, Denotes}
use Rattle.cadence_value.specs.declared.decimal.read.ParseDecimalError.{ParseDecimalError}
use Rattle.cadence_value.specs.declared.decimal.read.ParseDecimalError.TheVariants.{NotANumber, TooManyPlaces, TooLarge}
use Rattle.std.specs.Int.RustNames.{FitsSigned}
use mir.Syntax.{w128}
use Rattle.std.specs.List.{AllByRecursion}
use Rattle.std.specs.Str.{IsAscii, IsUtf8}
use Rattle.std.proofs.lemmas.Str.{IsUtf8-from_ascii}

-- A product and one factor that is not 0 determine the other factor.
cancel : (a b k : ℕ) → 0 < k → a * k ≡ b * k → a ≡ b
cancel a b k some e = sym (div-mul-add a k 0 some) ∙ ap (λ x. (x + 0) / k) e ∙ div-mul-add b k 0 some

cancel_abs : (y z : ℤ) (k : ℕ) → 0 < k → y *ℤ pos k ≡ z *ℤ pos k → unsigned_abs y ≡ unsigned_abs z
cancel_abs y z k some e = cancel (unsigned_abs y) (unsigned_abs z) k some (sym (unsigned_abs-mul y (pos k)) ∙ ap unsigned_abs e
    ∙ unsigned_abs-mul z (pos k))

apart : (x y : ℕ) → 0 < y → pos x ≡ neg_ℤ (pos y) → ⊥
apart x zero some e = absurd (omega (arith, some))
apart x (suc y) some e = absurd cc

some_product : (n k : ℕ) → 0 < k → 0 < suc n * k
some_product n k some = omega (arith, le-mul_of_pos_right {m = k} (suc n) some)

cancel_signed : (y z : ℤ) (k : ℕ) → 0 < k → y *ℤ pos k ≡ z *ℤ pos k → y ≡ z
cancel_signed (pos m) (pos n) k some e = ap pos (cancel_abs (pos m) (pos n) k some e)
cancel_signed (pos m) (negsuc n) k some e = absurd (apart (m * k) (suc n * k) (some_product n k some) e)
cancel_signed (negsuc m) (pos n) k some e = absurd (apart (n * k) (suc m * k) (some_product m k some) (sym e))
cancel_signed (negsuc m) (negsuc n) k some e = ap negsuc (omega (arith, cancel_abs (negsuc m) (negsuc n) k some e))

-- No lowest form of a number has fewer decimal places than another.
no_fewer : (m : ℤ) (p : ℕ) (a b : Number) → IsLowestForm m p a → IsLowestForm m p b → a.places < b.places → ⊥
no_fewer m p a b h k fewer =
    let x = unsigned_abs a.mantissa in
    let y = unsigned_abs b.mantissa in
    let d = b.places - a.places - 1 in
    let j = p - b.places in
    let tens : p - a.places ≡ suc d + j = omega (arith, fewer, k.fewer) in
    let powers : 10 ^ (p - a.places) ≡ 10 ^ suc d * 10 ^ j = ap (λ i. 10 ^ i) tens ∙ pow-add 10 (suc d) j in
    let size : x * 10 ^ (p - a.places) ≡ y * 10 ^ j = sym (unsigned_abs-mul a.mantissa (pos (10 ^ (p - a.places))))
    ∙ ap unsigned_abs (sym h.same ∙ k.same) ∙ unsigned_abs-mul b.mantissa (pos (10 ^ j)) in
    let tenfold : x * 10 ^ suc d ≡ y = cancel (x * 10 ^ suc d) y (10 ^ j) (ten_to_pos j) (mul_assoc x (10 ^ suc d) (10 ^ j)
    ∙ ap (λ q. x * q) (sym powers) ∙ size) in
    let tens_of : y ≡ x * 10 ^ d * 10 = sym tenfold ∙ ap (λ q. x * q) (pow-last d) ∙ sym (mul_assoc x (10 ^ d) 10) in
    last_place b.mantissa b.places (omega (arith, fewer)) k.lowest (ap (λ n. n % 10) tens_of ∙ rest (x * 10 ^ d))
  where
    pow-last : (i : ℕ) → 10 ^ suc i ≡ 10 ^ i * 10
    pow-last i = omega (arith, pow-succ' 10 i)

    rest : (n : ℕ) → n * 10 % 10 ≡ 0
    rest n = omega arith

same_places : (a b : ℕ) → (a < b → ⊥) → (b < a → ⊥) → a ≡ b
same_places zero zero h k = refl
same_places zero (suc b) h k = absurd (h (omega arith))
same_places (suc a) zero h k = absurd (k (omega arith))
same_places (suc a) (suc b) h k = ap suc (same_places a b (λ l. h (omega (arith, l))) (λ l. k (omega (arith, l))))

-- A number has one lowest form.
pub lowest_once : (m : ℤ) (p : ℕ) (a b : Number) → IsLowestForm m p a → IsLowestForm m p b → a ≡ b
lowest_once m p a b h k =
    let places : a.places ≡ b.places = same_places a.places b.places (no_fewer m p a b h k) (no_fewer m p b a k h) in
    let mantissa : a.mantissa ≡ b.mantissa = cancel_signed a.mantissa b.mantissa (10 ^ (p - a.places)) (ten_to_pos (p - a.places)) (sym h.same
    ∙ k.same ∙ ap (λ j. b.mantissa *ℤ pos (10 ^ (p - j))) (sym places)) in
    λ i. record { mantissa = mantissa i; places = places i }

pub says_once : (text : List ℕ) (a b : Number) → Denotes text a → Denotes text b → a ≡ b
says_once text a b h k =
    let same : number h.mantissa h.places ≡ number k.mantissa k.places =
    number_once (number h.mantissa h.places) (number k.mantissa k.places) (h.shown
    ∙ sym k.shown) in
    lowest_once h.mantissa h.places a b h.lowest (subst (λ (n : Number). IsLowestForm n.mantissa n.places b) (sym same) k.lowest)

-- If no number is read from a text, then the text says no number that fits a `Decimal`.
pub none_said : (text : List ℕ) (why : ParseDecimalError) → ReadsDecimal text (Err why) → (n : Number) → IsDecimal n × Denotes text n → ⊥
none_said text NotANumber none n (good, says) = none n says
none_said text TooManyPlaces (m, said, many) n (good, says) =
    absurd (omega (arith, good.places, many, ap (λ (k : Number). k.places) (says_once text n m says said)))
none_said text TooLarge (m, said, few, large) n (good, says) =
    large (subst (λ (k : Number). FitsSigned w128 k.mantissa) (says_once text n m says said) good.mantissa)

-- Each byte of a text that says a number is a digit, a dot or a minus, and so the text is in UTF-8.
ascii : (bytes : List ℕ) → AllByRecursion IsNumberByte bytes → IsAscii bytes
ascii [] h i = lit< tt
ascii (b ∷ bytes) (one, others) zero = omega (arith, one.1)
ascii (b ∷ bytes) (one, others) (suc i) = ascii bytes others i

pub said_bytes : (text : List ℕ) (n : Number) → Denotes text n → AllByRecursion IsNumberByte text
said_bytes text n h = subst (AllByRecursion IsNumberByte) h.shown (number_bytes (number h.mantissa h.places))

pub said_utf8 : (text : List ℕ) (n : Number) → Denotes text n → IsUtf8 text
said_utf8 text n h = IsUtf8-from_ascii text (ascii text (said_bytes text n h))
