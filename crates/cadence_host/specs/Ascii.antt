-- Bytes of ASCII.
use Rattle.std.specs.Prelude.{ℕ, List, ◌≤◌, ◌<◌, slice_index}

-- The bytes from place i up to place j are ASCII.
abbrev pub IsAsciiBetween : List ℕ → ℕ → ℕ → Type 0
IsAsciiBetween bs i j = (k : ℕ) → i ≤ k → k < j → slice_index bs k < 128
