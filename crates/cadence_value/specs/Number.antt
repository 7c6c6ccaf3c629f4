-- A number, which is a whole number divided by a power of ten, and its text.
use Rattle.std.specs.Prelude.{◌≡◌, ℕ, ◌-◌, ◌/◌, ◌%◌, ◌^◌, ◌≤◌, ◌==◌, Bool, true, not, ◌||◌, ◌+◌, if◌then◌else◌, List, [], ◌∷◌, ◌++◌, length}
use Rattle.std.specs.Prelude.{map, replicate, ℤ, pos, ◌*ℤ◌, unsigned_abs, codes}
use Rattle.std.specs.Int.{is_negative}
use Rattle.std.specs.Int.Digits.{digits_of}
use Rattle.std.specs.Int.RustNames.{FitsSigned}
use Rattle.std.specs.List.{flat_map}
use mir.Syntax.{w128}

-- the number `mantissa` divided by 10 to the power of `places`
pub record Number : Type 0 where
  pub mantissa : ℤ
  pub places : ℕ

-- the number with this mantissa and these places
abbrev pub number : ℤ → ℕ → Number
number m p = record { mantissa = m; places = p }

-- a signed whole number
abbrev pub whole : ℤ → Number
whole n = number n 0

-- an unsigned whole number
abbrev pub natural : ℕ → Number
natural n = whole (pos n)

-- whether there is no digit after the dot, or the last of them is not 0
abbrev pub is_lowest : ℤ → ℕ → Bool
is_lowest m p = p == 0 || not (unsigned_abs m % 10 == 0)

-- `n` is the same number as `m` divided by 10 to the power of `p`, with as few digits after the dot as possible.
pub record IsLowestForm (m : ℤ) (p : ℕ) (n : Number) : Type 0 where
  pub fewer : n.places ≤ p
  pub same : m ≡ n.mantissa *ℤ pos (10 ^ (p - n.places))
  pub lowest : is_lowest n.mantissa n.places ≡ true

-- A `Decimal` can be this number: its mantissa fits 128 bits, it has at most 30 places, and it is in lowest form.
pub record IsDecimal (number : Number) : Type 0 where
  pub mantissa : FitsSigned w128 number.mantissa
  pub places : number.places ≤ 30
  pub lowest : is_lowest number.mantissa number.places ≡ true

-- the digits of a whole number without leading zeros, and `0` for 0
unfoldable pub decimal_text : ℕ → List ℕ
decimal_text n = if n == 0 then codes "0" else map (λ digit. 48 + digit) (digits_of 10 n)

-- the digits, with as many zeros before them as make `p` digits
abbrev pub padded_digits : ℕ → List ℕ → List ℕ
padded_digits p digits = replicate (p - length digits) 48 ++ digits

-- a dot and the last `p` digits of `n`, or nothing if `p` is 0
abbrev pub places_text : ℕ → ℕ → List ℕ
places_text n p = if p == 0 then [] else codes "." ++ padded_digits p (decimal_text (n % 10 ^ p))

-- the text of a number: a minus if it is below zero, the digits of the whole part, and then a dot and the places, if
-- there are any
abbrev pub number_text : Number → List ℕ
number_text n =
    (if is_negative n.mantissa then codes "-" else []) ++ (decimal_text (unsigned_abs n.mantissa / 10 ^ n.places) ++ places_text
    (unsigned_abs n.mantissa) n.places)

-- the texts of the elements in order, with `between` between each two
abbrev pub joined_texts : {X : Type 0} → List ℕ → (X → List ℕ) → List X → List ℕ
joined_texts between text [] = []
joined_texts between text (x ∷ xs) = text x ++ flat_map (λ y. between ++ text y) xs

-- the texts of the numbers, with a colon between each two
abbrev pub numbers_text : List Number → List ℕ
numbers_text ns = joined_texts (codes ":") number_text ns
