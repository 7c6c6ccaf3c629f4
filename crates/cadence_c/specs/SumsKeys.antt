-- The keys of calls of C that make no line.
use Rattle.std.specs.Prelude.{◌≡◌, ℕ, ℤ, List, [], ◌∷◌, ◌++◌, Option, Some, None, IsSomeAnd, length, negsuc, option_and_then, pos, slice_get}
use Rattle.cadence_aggregating.specs.Keys.{IsKeyOfLine, line_of_counter, line_of_gauge}
use Rattle.cadence_aggregating.specs.declared.keys.LineKey.{LineKey}
use Rattle.cadence_aggregating.specs.declared.keys.LineKey.TheVariants.{Raises, Sets}
use Rattle.cadence_c.specs.SumsHandle.{keys_of}
use Rattle.cadence_c.specs.declared.sums.Addend.{Addend}
use Rattle.cadence_c.specs.declared.sums.Addend.TheVariants.{Line, Raise, Set}
use Rattle.cadence_c.specs.declared.sums_handle.SumsHandle.{SumsHandle}

-- the line that a key makes of a number; a gauge is set to no negative number
abbrev pub line_of_key : ℤ → LineKey → Option (List ℕ)
line_of_key n (Raises key) = Some (line_of_counter key n)
line_of_key (pos n) (Sets key) = Some (line_of_gauge key n)
line_of_key (negsuc n) (Sets key) = None

-- the line that the key with this number makes, or none if there is no such key
abbrev pub line_by_key : List LineKey → ℕ → ℤ → Option (List ℕ)
line_by_key keys place n = option_and_then (line_of_key n) (slice_get keys place)

-- the same for the keys of a handle
abbrev pub line_by_handle : SumsHandle → ℕ → ℤ → Option (List ℕ)
line_by_handle h place n = option_and_then (λ keys. line_by_key keys place n) (keys_of h)

-- There is one key more: that of the line, and its number is how many keys there were.
abbrev pub GetsKey : List ℕ → ℕ → List LineKey → List LineKey → Type 0
GetsKey line place before after =
    (place ≡ length before) × ((key : LineKey) × IsKeyOfLine line key × (after ≡ before ++ key ∷ []))

-- the same for the keys of a handle
abbrev pub HasKeyMore : List ℕ → ℕ → SumsHandle → SumsHandle → Type 0
HasKeyMore line place old new =
    IsSomeAnd (keys_of old) (λ before. IsSomeAnd (keys_of new) (GetsKey line place before))

-- the line of what a call adds up
abbrev pub line_of_addend : Addend → List ℕ
line_of_addend (Line text) = text.now
line_of_addend (Raise key by) = line_of_counter key.now by
line_of_addend (Set key value) = line_of_gauge key.now value
