-- Which container a process runs in, by the text of `/proc/self/cgroup`.
use Rattle.std.specs.Prelude.{◌==◌, ◌-◌, ◌&&◌, ◌||◌, not, ℕ, Bool, true, false, if◌then◌else◌, Option, None, Some, List, [], ◌∷◌, codes, drop, length, take}
use Rattle.std.specs.Char.{is_ascii, is_ascii_digit, is_ascii_hexdigit, is_ascii_uppercase}
use Rattle.std.specs.List.{list_all, slice_split}
use Rattle.std.specs.Option.{option_or}
use Rattle.cadence_environment.specs.TagTexts.{has_bytes}

-- whether an ASCII character fits a sign of a shape: `h` is a digit in hexadecimal that is no capital, `_` is a dash or
-- an underscore, and each other sign is itself
abbrev pub fits : ℕ → ℕ → Bool
fits sign byte =
    is_ascii byte && (if sign == 104 then is_ascii_hexdigit byte && not (is_ascii_uppercase byte)
    else if sign == 95 then (byte == 45 || byte == 95) else byte == sign)

-- whether a text has a shape: each byte fits the sign at its place. A `+` at the end of a shape is one
-- or more decimal digits.
abbrev pub has_shape : List ℕ → List ℕ → Bool
has_shape [] text = not (has_bytes text)
has_shape (sign ∷ signs) [] = false
has_shape (sign ∷ signs) (byte ∷ bytes) =
    if sign == 43 then list_all is_ascii_digit (byte ∷ bytes) else (fits sign byte && has_shape signs bytes)

-- whether a text is the id of a container: 64 digits as of Docker and containerd, 32 digits and a number as of ECS, or
-- the groups of a UUID. Garden has ids like a UUID, but with 4 digits in the last group: they count only at the end of a
-- line.
abbrev pub is_id : List ℕ → Bool → Bool
is_id text is_last =
    has_shape (codes "hhhhhhhhhhhhhhhhhhhhhhhhhhhhhhhhhhhhhhhhhhhhhhhhhhhhhhhhhhhhhhhh") text
    || (has_shape (codes "hhhhhhhhhhhhhhhhhhhhhhhhhhhhhhhh-+") text
    || (has_shape (codes "hhhhhhhh_hhhh_hhhh_hhhh_hhhhhhhhhhhh") text
    || (is_last && has_shape (codes "hhhhhhhh-hhhh-hhhh-hhhh-hhhh") text)))

-- the longest id at the end of a text
abbrev pub id_at_end : List ℕ → Bool → Option (List ℕ)
id_at_end [] is_last = None
id_at_end (c ∷ cs) is_last = if is_id (c ∷ cs) is_last then Some (c ∷ cs) else id_at_end cs is_last

-- whether a line ends with `.scope`
abbrev pub is_scope : List ℕ → Bool
is_scope line = has_shape (codes ".scope") (drop (length line - 6) line)

-- the id of a line: the longest one at its end, or before a `.scope` there
abbrev pub id_of_line : List ℕ → Option (List ℕ)
id_of_line line = if is_scope line then id_at_end (take (length line - 6) line) false else id_at_end line true

-- the id of the first of these lines that has one
abbrev pub id_of_lines : List (List ℕ) → Option (List ℕ)
id_of_lines [] = None
id_of_lines (line ∷ lines) = option_or (id_of_line line) (id_of_lines lines)

-- the container that a text says: the id of its first line that has one
abbrev pub container_of : List ℕ → Option (List ℕ)
container_of text = id_of_lines (slice_split (λ b. b == 10) text)

-- the default container of a client: the one that the caller gives, or otherwise the one that the text says, if the
-- container of the process is the default one
abbrev pub default_container : Bool → Option (List ℕ) → List ℕ → Option (List ℕ)
default_container is_wanted given text = option_or given (if is_wanted then container_of text else None)
