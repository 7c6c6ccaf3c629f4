-- Bytes as a report prints them, in printable ASCII.
use Rattle.std.specs.Prelude.{ℕ, ◌+◌, ◌/◌, ◌%◌, ◌==◌, if◌then◌else◌, nat_lt, nat_le, List, [], ◌∷◌, ◌++◌, codes, length}
use Rattle.std.specs.List.{flat_map}
use Rattle.std.specs.Fmt.{decimal}

-- the lower-case hexadecimal digit of a number from 0 to 15
abbrev pub hex_digit : ℕ → ℕ
hex_digit n = if nat_lt n 10 then 48 + n else 87 + n

-- a printable byte itself, and `\x` with two hexadecimal digits for every other byte
abbrev pub plain_or_hex : ℕ → List ℕ
plain_or_hex b = if nat_le 32 b then (if nat_le b 126 then b ∷ [] else hex_escape b) else hex_escape b
  where
    hex_escape : ℕ → List ℕ
    hex_escape n = codes "\\x" ++ hex_digit (n / 16) ∷ hex_digit (n % 16) ∷ []

-- the text that a report prints for one byte: two backslashes for a backslash, `\n` for a newline, and for any other
-- byte what `plain_or_hex` says
abbrev pub escaped_byte : ℕ → List ℕ
escaped_byte b = if b == 92 then codes "\\\\" else if b == 10 then codes "\\n" else plain_or_hex b

-- the text that a report prints for the bytes
abbrev pub escaped_bytes : List ℕ → List ℕ
escaped_bytes bytes = flat_map escaped_byte bytes

-- what a line has after the number of bytes: a space and the escaped bytes, or nothing if there are no bytes
abbrev pub after_length : List ℕ → List ℕ
after_length [] = []
after_length (b ∷ bs) = codes " " ++ escaped_bytes (b ∷ bs)

-- the line of a report with a label, the number of bytes, and the escaped bytes
abbrev pub text_line : List ℕ → List ℕ → List ℕ
text_line label bytes = label ++ codes " " ++ decimal (length bytes) ++ after_length bytes ++ codes "\n"
