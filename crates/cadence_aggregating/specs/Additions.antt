-- For proofs: the parts into which a line is cut, and how its metric is added to others of its context.
use Rattle.std.specs.Prelude.{◌≡◌, ◌≢◌, true, ℕ, List, ◌∷◌, ◌++◌, All}
use Rattle.std.specs.Int.RustNames.{FitsSigned}
use mir.Syntax.{w64}
use Rattle.cadence_read.specs.Cuts.{IsCut, Parts}
use Rattle.cadence_read.specs.Values.{AreNumbers, IsNumberText}
use Rattle.cadence_text.specs.declared.line.MetricType.{MetricType}
use Rattle.cadence_text.specs.declared.line.MetricType.TheVariants.{Counter, Gauge, Set}
use Rattle.cadence_text.specs.Line.{kind_text}
use Rattle.cadence_value.specs.Number.{whole}
use Rattle.cadence_value.specs.SpelledNumber.{SaysNumber}
use Rattle.cadence_aggregating.specs.Says.{HasTime, IsEventName, is_timed}
use Rattle.cadence_aggregating.specs.declared.said.Addition.{Addition}
use Rattle.cadence_aggregating.specs.declared.said.Addition.TheVariants.{Amount, Level, Member, Timing}

-- the context of a line of these parts
abbrev pub context_of : Parts → List ℕ
context_of p = p.name ++ 124 ∷ (p.kind ++ p.fields)

-- A line with this name may be added to others: it is a single line without a time, and the name is not that of an event.
pub record IsAddable (line name : List ℕ) : Type 0 where
  pub newline : All (λ byte. byte ≢ 10) line
  pub event : IsEventName name → ⊥
  pub time : HasTime line → ⊥

-- Values of this kind are added in this way.
abbrev pub IsAdditionBy : MetricType → List ℕ → Addition → Type 0
IsAdditionBy kind values (Amount n) = (kind ≡ Counter) × SaysNumber values (whole n) × FitsSigned w64 n
IsAdditionBy kind values Level = (kind ≡ Gauge) × IsNumberText values
IsAdditionBy kind values Member = kind ≡ Set
IsAdditionBy kind values Timing = (is_timed kind ≡ true) × AreNumbers values

-- The values of a line of these parts are added in this way.
abbrev pub IsAddition : Parts → Addition → Type 0
IsAddition p a = (kind : MetricType) × (p.kind ≡ kind_text kind) × IsAdditionBy kind p.values a

-- The line is cut into these parts, and may be added to others, in this way.
abbrev pub IsAddedAs : List ℕ → Parts × Addition → Type 0
IsAddedAs line a = IsCut line a.0 × IsAddable line a.0.name × IsAddition a.0 a.1
