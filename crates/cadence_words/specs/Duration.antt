-- Durations that are written as a number and a unit.
use Rattle.std.specs.Prelude.{◌≡◌, ℕ, ◌-◌, ◌*◌, ◌^◌, ◌<◌, ◌≤◌, List, ◌++◌, pos, codes}
use Rattle.cadence_text.specs.declared.line.MetricType.{MetricType}
use Rattle.cadence_text.specs.declared.line.MetricType.TheVariants.{Counter, Timer, Gauge, Meter, Histogram, Set, Distribution}
use Rattle.cadence_words.specs.declared.duration.Unit.{Unit}
use Rattle.cadence_words.specs.declared.duration.Unit.TheVariants.{Second, Milli, Micro, Nano}
use Rattle.cadence_value.specs.Number.{IsDecimal, IsLowestForm, Number, natural}
use Rattle.cadence_value.specs.DenotedNumber.{Denotes}

-- the text of a unit
abbrev pub unit_text : Unit → List ℕ
unit_text Second = codes "s"
unit_text Milli = codes "ms"
unit_text Micro = codes "us"
unit_text Nano = codes "ns"

-- the power of ten that is the number of nanoseconds in a unit
abbrev pub unit_tens : Unit → ℕ
unit_tens Second = 9
unit_tens Milli = 6
unit_tens Micro = 3
unit_tens Nano = 0

-- This number of units is exactly this number of nanoseconds.
pub record IsNanos (n : Number) (unit : Unit) (nanos : ℕ) : Type 0 where
  pub size : ℕ
  pub signless : n.mantissa ≡ pos size
  pub whole : n.places ≤ unit_tens unit
  pub same : nanos ≡ size * 10 ^ (unit_tens unit - n.places)

-- The word says this number of nanoseconds: a number, and then a unit.
pub record IsTimeWord (word : List ℕ) (nanos : ℕ) : Type 0 where
  pub digits : List ℕ
  pub number : Number
  pub unit : Unit
  pub decimal : IsDecimal number
  pub says : Denotes digits number
  pub text : digits ++ unit_text unit ≡ word
  pub is : IsNanos number unit nanos

-- A metric of this kind counts a duration of these nanoseconds as this number: a timer counts milliseconds, with up to
-- six digits after the dot, and a histogram counts nanoseconds. What is before the dot fits 64 bits. Other kinds don't
-- take durations.
abbrev pub CountsNanos : MetricType → ℕ → Number → Type 0
CountsNanos Counter nanos n = ⊥
CountsNanos Timer nanos n = IsLowestForm (pos nanos) 6 n × (nanos < 2 ^ 64 * 1_000_000)
CountsNanos Gauge nanos n = ⊥
CountsNanos Meter nanos n = ⊥
CountsNanos Histogram nanos n = (n ≡ natural nanos) × (nanos < 2 ^ 64)
CountsNanos Set nanos n = ⊥
CountsNanos Distribution nanos n = ⊥

-- The word says a duration, which a metric of this kind counts as this number.
pub record IsDurationWord (kind : MetricType) (word : List ℕ) (n : Number) : Type 0 where
  pub nanos : ℕ
  pub written : IsTimeWord word nanos
  pub counts : CountsNanos kind nanos n
