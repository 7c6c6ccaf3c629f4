-- The cardinality that the variables of the environment say.
use Rattle.std.specs.Prelude.{◌≡◌, ℕ, Option, None, Some, List, [], ◌∷◌}
use Rattle.cadence_text.specs.Line.{cardinality_text}
use Rattle.cadence_text.specs.declared.line.enrichment.Cardinality.{Cardinality}

-- the first text, or the second one if the first one is empty
abbrev pub first_set : List ℕ → List ℕ → List ℕ
first_set [] second = second
first_set (c ∷ cs) second = c ∷ cs

-- The text says this cardinality. An empty text says none.
abbrev pub SaysCardinality : List ℕ → Option Cardinality → Type 0
SaysCardinality text None = text ≡ []
SaysCardinality text (Some cardinality) = cardinality_text cardinality ≡ text
