-- What is held: for each table, what its entries say, the oldest first.
use Rattle.std.specs.Prelude.{String, string_bytes}
use Rattle.std.specs.Prelude.{ℤ, List, [], ◌∷◌, ◌++◌, drop, take}
use Rattle.cadence_aggregate.specs.declared.due.Due.{Due}
use Rattle.cadence_aggregate.specs.Server.{Sample, amount, level, member, timing}

-- what the entries say, the last one first
abbrev pub held_by : {E : Type 0} → (E → Sample) → List E → List Sample
held_by say [] = []
held_by say (e ∷ es) = held_by say es ++ say e ∷ []

module _ {Z : Type 0} where
  abbrev pub held_sums : List (String Z × ℤ) → List Sample
  held_sums es = held_by (λ e. amount (string_bytes e.0) e.1) es

  abbrev pub held_levels : List (String Z × String Z) → List Sample
  held_levels es = held_by (λ e. level (string_bytes e.0) (string_bytes e.1)) es

  abbrev pub held_members : List (String Z × Unit {0}) → List Sample
  held_members es = held_by (λ e. member (string_bytes e.0)) es

  abbrev pub held_timings : List (String Z × String Z) → List Sample
  held_timings es = held_by (λ e. timing (string_bytes e.0) (string_bytes e.1)) es

-- no context is due
abbrev pub none_due : Due
none_due = record { sums = 0; levels = 0; members = 0; timings = 0 }

-- the first lines of each kind, as many as are due
abbrev pub firsts : Due → List Sample → List Sample → List Sample → List Sample → List Sample
firsts due sums levels members timings =
    take due.sums sums ++ (take due.levels levels ++ (take due.members members ++ take due.timings timings))

-- the other lines of each kind
abbrev pub rests : Due → List Sample → List Sample → List Sample → List Sample → List Sample
rests due sums levels members timings =
    drop due.sums sums ++ (drop due.levels levels ++ (drop due.members members ++ drop due.timings timings))

-- all lines, in the order in which they are sent: first those that are due
abbrev pub in_turn : Due → List Sample → List Sample → List Sample → List Sample → List Sample
in_turn due sums levels members timings = firsts due sums levels members timings ++ rests due sums levels members timings
