-- A number of 128 bits with at most 30 places has a text of at most 71 bytes.
use Rattle.std.proofs.Common.{ℕ, zero, suc, ◌/◌, ◌^◌, ◌<◌, ◌≤◌, ℤ, pos, negsuc, length, ap, arith, lit<, unsigned_abs}
use Rattle.std.proofs.lemmas.List.{length-append}
use Rattle.std.proofs.Math.Nat.{div-le_self}
use Rattle.cadence_value.specs.Number.{Number, IsDecimal, decimal_text, number_text, places_text}
use Rattle.cadence_value.proofs.digits.Digits.{length-decimal_text-le}
use Rattle.cadence_value.proofs.reading.NumberRead.{fits_size}
use Rattle.cadence_value.proofs.digits.NumberText.{length-places_of, places_text-suc, sign, sign-pos, unsigned_text}

length-sign-le : (z : ℤ) → length (sign z) ≤ 1
length-sign-le (pos n) = omega (arith, ap (λ t. length t) (sign-pos n))
length-sign-le (negsuc n) = omega arith

length-places_text-le : (n p : ℕ) → p ≤ 30 → length (places_text n p) ≤ 31
length-places_text-le n zero few = omega arith
length-places_text-le n (suc p) few = omega (arith, ap (λ t. length t) (places_text-suc n p), length-places_of n p)

pub length-number_text-le : (n : Number) → IsDecimal n → length (number_text n) ≤ 71
length-number_text-le n is =
    let size = unsigned_abs n.mantissa in
    let whole = size / 10 ^ n.places in
    let small : whole < 10 ^ 39 = omega (arith, fits_size n.mantissa is.mantissa, div-le_self size (10 ^ n.places)) in
    omega (
      arith,
      length-append (sign n.mantissa) (unsigned_text size n.places),
      length-append (decimal_text whole) (places_text size n.places),
      length-sign-le n.mantissa,
      length-decimal_text-le 39 whole (lit< tt) small,
      length-places_text-le size n.places is.places,
    )
