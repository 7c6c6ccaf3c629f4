-- The number that digits say if they come after others.
use Rattle.std.proofs.Common.{◌≡◌, ℕ, zero, suc, ◌+◌, ◌*◌, ◌^◌, ◌<◌, ◌≤◌, List, [], ◌∷◌, ◌++◌, length, take, get_or, replicate, refl, sym, ap, ◌∙◌, lit<, arith}
use Rattle.std.specs.Char.{digit_value}
use Rattle.std.specs.Str.Parse.{AllDigits, digits_value, digits_value_after}
use Rattle.std.proofs.Math.Nat.{add-mul, mul_assoc, pow-succ'}

after_next : (n : ℕ) (ds : List ℕ) (i : ℕ) → i < length ds
    → digits_value_after 10 n (take (suc i) ds) ≡ digits_value_after 10 n (take i ds) * 10 + digit_value (get_or ds i 0)
after_next n [] i inside = absurd (omega (arith, inside))
after_next n (d ∷ ds) zero inside = refl
after_next n (d ∷ ds) (suc i) inside = after_next (n * 10 + digit_value d) ds i (omega (arith, inside))

pub after_more : (n : ℕ) (ds : List ℕ) (i : ℕ) → i < length ds
    → digits_value_after 10 n (take (i + 1) ds) ≡ digits_value_after 10 n (take i ds) * 10 + digit_value (get_or ds i 0)
after_more n ds i inside =
    let next : i + 1 ≡ suc i = omega arith in
    ap (λ k. digits_value_after 10 n (take k ds)) next ∙ after_next n ds i inside

after_le : (n : ℕ) (ds : List ℕ) → n ≤ digits_value_after 10 n ds
after_le n [] = omega arith
after_le n (d ∷ ds) = omega (arith, after_le (n * 10 + digit_value d) ds)

pub after_take : (n : ℕ) (ds : List ℕ) (i : ℕ) → digits_value_after 10 n (take i ds) ≤ digits_value_after 10 n ds
after_take n ds zero = after_le n ds
after_take n [] (suc i) = omega arith
after_take n (d ∷ ds) (suc i) = after_take (n * 10 + digit_value d) ds i

pub after_append : (n : ℕ) (xs ys : List ℕ) → digits_value_after 10 n (xs ++ ys) ≡ digits_value_after 10 (digits_value_after 10 n xs) ys
after_append n [] ys = refl
after_append n (x ∷ xs) ys = after_append (n * 10 + digit_value x) xs ys

pub before_le : (n : ℕ) (xs ys : List ℕ) → digits_value_after 10 n xs ≤ digits_value_after 10 n (xs ++ ys)
before_le n xs ys = omega (arith, after_append n xs ys, after_le (digits_value_after 10 n xs) ys)

pub digits_split : (xs ys : List ℕ) → AllDigits 10 (xs ++ ys) → AllDigits 10 xs × AllDigits 10 ys
digits_split [] ys h = (tt, h)
digits_split (x ∷ xs) ys (h, hs) = let (front, rest) = digits_split xs ys hs in ((h, front), rest)

pub digits_join : (xs ys : List ℕ) → AllDigits 10 xs → AllDigits 10 ys → AllDigits 10 (xs ++ ys)
digits_join [] ys h k = k
digits_join (x ∷ xs) ys (h, hs) k = (h, digits_join xs ys hs k)

-- The digits that come before others are worth a power of ten.
pub after_value : (n : ℕ) (ds : List ℕ) → digits_value_after 10 n ds ≡ n * 10 ^ length ds + digits_value 10 ds
after_value n [] = omega arith
after_value n (d ∷ ds) =
    let v = digit_value d in
    let q = 10 ^ length ds in
    let alone : 0 * 10 + v ≡ v = omega arith in
    omega (
      arith,
      after_value (n * 10 + v) ds,
      after_value (0 * 10 + v) ds,
      add-mul (n * 10) v q,
      mul_assoc n 10 q,
      ap (λ k. n * k) (pow-succ' 10 (length ds)),
      ap (λ k. k * q) alone,
    )

pub zeros_value : (n z : ℕ) → digits_value_after 10 n (replicate z 48) ≡ n * 10 ^ z
zeros_value n zero = let alone : n ≡ n * 1 = omega arith in alone
zeros_value n (suc z) =
    let shift : n * 10 + 0 ≡ n * 10 = omega arith in
    ap (λ k. digits_value_after 10 k (replicate z 48)) shift ∙ zeros_value (n * 10) z ∙ mul_assoc n 10 (10 ^ z)
    ∙ ap (λ k. n * k) (sym (pow-succ' 10 z))

pub zeros_digits : (z : ℕ) → AllDigits 10 (replicate z 48)
zeros_digits zero = tt
zeros_digits (suc z) = (lit< tt, zeros_digits z)
