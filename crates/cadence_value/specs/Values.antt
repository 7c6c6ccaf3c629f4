-- The numbers of a value, and what a conversion to a value returns.
use Rattle.std.specs.Prelude.{◌≡◌, ℕ, ◌/◌, ◌^◌, nat_lt, if◌then◌else◌, Option, None, Some, List, [], ◌∷◌, map, Result, Ok, Err, codes}
use Rattle.std.specs.List.{list_all}
use Rattle.std.specs.Duration.{as_nanos}
use Rattle.std.specs.declared.time.Duration.{Duration}
use Rattle.cadence_errors.specs.declared.MetricError.{MetricError}
use Rattle.cadence_value.specs.declared.value.durations.TimeUnit.{TimeUnit}
use Rattle.cadence_value.specs.declared.value.durations.TimeUnit.TheVariants.{Millisecond, Nanosecond}
use Rattle.cadence_value.specs.declared.value.MetricValue.{MetricValue}
use Rattle.cadence_value.specs.declared.value.MetricValue.TheVariants.{Signed, PackedSigned, Unsigned, PackedUnsigned, Decimal, PackedDecimal}
use Rattle.cadence_errors.specs.Errors.{Gives, IsDescribed}
use Rattle.cadence_errors.specs.declared.ErrorKind.TheVariants.{InvalidInput}
use Rattle.cadence_value.specs.Number.{Number, whole, natural}

-- the numbers of a value, whatever their Rust type is
abbrev pub numbers_of : {Z : Type 0} → MetricValue Z → List Number
numbers_of (Signed n) = whole n ∷ []
numbers_of (PackedSigned ns) = map whole ns.items
numbers_of (Unsigned n) = natural n ∷ []
numbers_of (PackedUnsigned ns) = map natural ns.items
numbers_of (Decimal d) = d ∷ []
numbers_of (PackedDecimal ds) = ds.items

-- the whole milliseconds of a duration; what is less than one is cut off
abbrev pub millis_of : Duration → ℕ
millis_of d = as_nanos d / 1_000_000

-- the whole nanoseconds of a duration
abbrev pub nanos_of : Duration → ℕ
nanos_of d = as_nanos d

-- the whole milliseconds or nanoseconds of a duration; what is less than one is cut off
abbrev pub count_in : TimeUnit → Duration → ℕ
count_in Millisecond d = millis_of d
count_in Nanosecond d = nanos_of d

-- these numbers, or `None` if one of them does not fit 64 bits
abbrev pub numbers_in_u64 : List ℕ → Option (List Number)
numbers_in_u64 ns = if list_all (λ n. nat_lt n (2 ^ 64)) ns then Some (map natural ns) else None

-- What a conversion may return, given the numbers that the value has, or `None` for a value that is refused. If it has
-- numbers, the result has exactly these, or memory ran out. If it is refused, the result is an error of kind
-- `InvalidInput`.
abbrev pub Converts : {Z : Type 0} → Option (List Number) → Result (MetricValue Z) MetricError → Type 0
Converts = Gives (λ numbers v. numbers_of v ≡ numbers)

-- The error says that a count of a duration passes 64 bits.
abbrev pub IsOverflow : MetricError → Type 0
IsOverflow e = IsDescribed InvalidInput (codes "u64 overflow") e

-- What a conversion that takes no memory may return, given the numbers that the value has, or `None` if a count of a
-- duration passes 64 bits. If it has numbers, the result has exactly these.
abbrev pub ConvertsInPlace : {Z : Type 0} → Option (List Number) → Result (MetricValue Z) MetricError → Type 0
ConvertsInPlace (Some numbers) (Ok v) = numbers_of v ≡ numbers
ConvertsInPlace (Some numbers) (Err e) = ⊥
ConvertsInPlace None (Ok v) = ⊥
ConvertsInPlace None (Err e) = IsOverflow e
