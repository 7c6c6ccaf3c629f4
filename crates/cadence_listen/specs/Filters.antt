-- Which lines a filter keeps.
use Rattle.std.specs.Prelude.{◌≡◌, ◌==◌, ◌⊎◌, ℕ, List, [], ◌∷◌, ◌++◌, None, IfSome}
use Rattle.std.specs.List.{slice_split}
use Rattle.cadence_read.specs.declared.any_line.AnyLine.{AnyLine}
use Rattle.cadence_read.specs.declared.any_line.AnyLine.TheVariants.{Event, MetricLine, Opaque, ServiceCheck}
use Rattle.cadence_read.specs.declared.any_line.MetricParts.{MetricParts}
use Rattle.cadence_listen.specs.declared.filter.Filter.{Filter}

-- The text matches the pattern: it is the same text, or the pattern ends in `*`, and the text begins with what comes
-- before that `*`.
abbrev pub IsLike : List ℕ → List ℕ → Type 0
IsLike pattern text =
    (text ≡ pattern) ⊎ ((front : List ℕ) × (rest : List ℕ) × (pattern ≡ front ++ 42 ∷ []) × (text ≡ front ++ rest))

-- At least one of the texts has the property.
abbrev pub HasOne : (List ℕ → Type 0) → List (List ℕ) → Type 0
HasOne Has [] = ⊥
HasOne Has (text ∷ texts) = Has text ⊎ HasOne Has texts

-- the parts of a text between the bytes that are `mark`
abbrev pub pieces : ℕ → List ℕ → List (List ℕ)
pieces mark text = slice_split (λ byte. byte == mark) text

-- The field lists tags, as in `#env:prod,web`, and one of these tags matches the pattern.
abbrev pub IsTagField : List ℕ → List ℕ → Type 0
IsTagField pattern field = (tags : List ℕ) × (field ≡ 35 ∷ tags) × HasOne (IsLike pattern) (pieces 44 tags)

-- One of the fields of a metric, which have bars between them, lists a tag that matches the pattern.
abbrev pub HasTag : List ℕ → List ℕ → Type 0
HasTag pattern fields = HasOne (IsTagField pattern) (pieces 124 fields)

-- The metric matches each pattern that the filter has.
pub record IsKeptMetric (filter : Filter) (p : MetricParts) : Type 0 where
  pub name : IfSome filter.name (λ pattern. IsLike pattern.now p.name.now)
  pub kind : IfSome filter.kind (λ pattern. IsLike pattern.now p.kind.now)
  pub tag : IfSome filter.tag (λ pattern. HasTag pattern.now p.fields.now)

-- The filter has no pattern.
pub record IsOpen (filter : Filter) : Type 0 where
  pub name : filter.name ≡ None
  pub kind : filter.kind ≡ None
  pub tag : filter.tag ≡ None

-- The filter keeps the line: a metric if it matches each pattern of the filter, and any other line if the filter has no
-- pattern.
abbrev pub IsKept : Filter → AnyLine → Type 0
IsKept filter (MetricLine p) = IsKeptMetric filter p
IsKept filter (Event text) = IsOpen filter
IsKept filter (ServiceCheck text) = IsOpen filter
IsKept filter (Opaque text) = IsOpen filter
