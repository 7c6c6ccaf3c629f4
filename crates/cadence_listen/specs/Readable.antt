-- Whether a server can read the lines of a packet.
use Rattle.std.specs.Prelude.{◌≡◌, ◌⊎◌, ⊤, ℕ, List, Bool, length, IsFalse, IsTrue}
use Rattle.std.specs.List.{AllByRecursion}
use Rattle.cadence_read.specs.Cuts.{IsFound}
use Rattle.cadence_read.specs.declared.any_line.AnyLine.{AnyLine}
use Rattle.cadence_read.specs.declared.any_line.AnyLine.TheVariants.{Event, MetricLine, Opaque, ServiceCheck}
use Rattle.cadence_listen.specs.Filters.{HasOne, pieces}
use Rattle.cadence_listen.specs.Rows.{IsWithoutLast}

-- The line is opaque: neither a metric nor an event nor a service check.
abbrev pub IsOpaque : AnyLine → Type 0
IsOpaque (MetricLine p) = ⊥
IsOpaque (Event text) = ⊥
IsOpaque (ServiceCheck text) = ⊥
IsOpaque (Opaque text) = ⊤

-- The line of a text between newlines is empty, or it isn't opaque.
pub record IsReadable (piece : List ℕ) : Type 0 where
  pub line : List ℕ
  pub cut : IsWithoutLast 13 piece line
  pub is : AnyLine
  pub found : IsFound line is
  pub read : (length line ≡ 0) ⊎ (IsOpaque is → ⊥)

-- The line of a text between newlines isn't empty, and it is opaque.
pub record IsUnreadable (piece : List ℕ) : Type 0 where
  pub line : List ℕ
  pub cut : IsWithoutLast 13 piece line
  pub is : AnyLine
  pub found : IsFound line is
  pub some : length line ≡ 0 → ⊥
  pub opaque : IsOpaque is

-- At true all lines between the newlines are readable, and at false one of them is not.
pub record Tells (lines : List ℕ) (whole : Bool) : Type 0 where
  pub yes : IsTrue whole → AllByRecursion IsReadable (pieces 10 lines)
  pub no : IsFalse whole → HasOne IsUnreadable (pieces 10 lines)
