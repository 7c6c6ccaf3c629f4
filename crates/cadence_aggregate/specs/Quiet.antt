-- When a call has to send nothing.
use Rattle.std.specs.Prelude.{◌<◌, ◌≤◌, ℕ, ℤ, ◌+ℤ◌, ◌+◌, List, length, Option, Some, None, String, string_bytes, nat_eq, Bool}
use Rattle.std.specs.Cmp.Lexicographic.{pointwise}
use Rattle.std.specs.Int.RustNames.{FitsSigned}
use Rattle.std.specs.List.{IsDistinct}
use Rattle.std.specs.Map.{keys_of}
use Rattle.std.specs.String.{string_eq}
use Rattle.lru.specs.LruCache.{LruCache}
use mir.Syntax.{w64}

-- The sum that is held, if one is, can be raised.
abbrev pub CanRaise : Option ℤ → ℤ → Type 0
CanRaise None by = Unit {0}
CanRaise (Some v) by = FitsSigned w64 (v +ℤ by)

-- If values are held, more values can be added to their line: the held values, the context and the new values (`more`
-- bytes together) and two colons are at most `most` bytes.
abbrev pub CanAppend : {Z : Type 0} → Option (String Z) → ℕ → ℕ → Type 0
CanAppend None more most = Unit {0}
CanAppend (Some text) more most = length (string_bytes text) + more + 2 ≤ most

module _ {Z : Type 0} where
  -- whether the key is this context
  abbrev pub is_context : List ℕ → String Z → Bool
  is_context context k = pointwise nat_eq context (string_bytes k)

  -- There is room for a new context.
  abbrev pub HasRoomForContext : {V : Type 0} → LruCache (String Z) V → Type 0
  HasRoomForContext table = length table.entries < table.cap

-- The entries are of different contexts.
abbrev pub AreDistinct : {Z V : Type 0} → List (String Z × V) → Type 0
AreDistinct entries = IsDistinct string_eq (keys_of entries)
