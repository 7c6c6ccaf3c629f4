-- How the texts of events and service checks are escaped. A line ends at its first newline, so each newline of a text
-- is written as a backslash and an `n`.
use Rattle.std.specs.Prelude.{ℕ, ◌==◌, ◌&&◌, if◌then◌else◌, List, [], ◌∷◌, ◌++◌, codes}
use Rattle.std.specs.List.{flat_map}

-- the escaped form of a byte: a backslash and an `n` for a newline (10), and the byte itself for any other
abbrev pub escaped_byte : ℕ → List ℕ
escaped_byte byte = if byte == 10 then codes "\\n" else byte ∷ []

-- the text with each byte escaped
unfoldable pub escaped : List ℕ → List ℕ
escaped text = flat_map escaped_byte text

-- what is written between two bytes of a message: a backslash if they are an `m` (109) and a colon (58), because a
-- server takes `m:` for the beginning of a message, and nothing otherwise
abbrev pub between : ℕ → ℕ → List ℕ
between a b = if a == 109 && b == 58 then codes "\\" else []

-- a text with a backslash between each `m` and the colon after it
abbrev pub marked : List ℕ → List ℕ
marked [] = []
marked (a ∷ []) = a ∷ []
marked (a ∷ b ∷ text) = a ∷ (between a b ++ marked (b ∷ text))

-- the escaped message of a service check
unfoldable pub escaped_message : List ℕ → List ℕ
escaped_message text = escaped (marked text)
