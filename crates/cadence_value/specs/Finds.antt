-- The results of searches: a value with a property, or none.
use Rattle.std.specs.Prelude.{Option, Some, None}

-- No value has the property.
abbrev pub HasNone : {X : Type 0} → (X → Type 0) → Type 0
HasNone {X} Has = (x : X) → Has x → ⊥

-- If the search returns a value, that value has the property. If it returns none, no value has the property.
abbrev pub Finds : {X : Type 0} → (X → Type 0) → Option X → Type 0
Finds Has (Some x) = Has x
Finds Has None = HasNone Has
