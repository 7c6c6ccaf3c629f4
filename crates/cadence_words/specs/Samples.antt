-- A random sample of lines.
use Rattle.std.specs.Prelude.{◌≡◌, ◌≢◌, ◌⊎◌, ℕ}

-- A byte of a line stays, or a byte that is no newline becomes a space.
abbrev pub IsPassed : ℕ → ℕ → Type 0
IsPassed old new = (new ≡ old) ⊎ ((new ≡ 32) × (old ≢ 10))
