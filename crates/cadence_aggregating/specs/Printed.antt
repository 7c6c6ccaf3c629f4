-- The line that says something.
use Rattle.std.specs.Prelude.{ℕ, ◌==◌, if◌then◌else◌, List, [], ◌∷◌, ◌++◌, codes}
use Rattle.cadence_aggregate.specs.Server.{Sample, amount, level, member, timing, unclear, other}
use Rattle.cadence_value.specs.Number.{number_text, whole}

-- the text before the first bar
abbrev pub before_bar : List ℕ → List ℕ
before_bar [] = []
before_bar (byte ∷ text) = if byte == 124 then [] else byte ∷ before_bar text

-- the text from the first bar on
abbrev pub from_bar : List ℕ → List ℕ
from_bar [] = []
from_bar (byte ∷ text) = if byte == 124 then byte ∷ text else from_bar text

-- the line of a context with these values
abbrev pub spliced : List ℕ → List ℕ → List ℕ
spliced context values = before_bar context ++ (codes ":" ++ (values ++ from_bar context))

-- the line that says this
abbrev pub line_saying : Sample → List ℕ
line_saying (amount c n) = spliced c (number_text (whole n))
line_saying (level c v) = spliced c v
line_saying (member l) = l
line_saying (timing c t) = spliced c t
line_saying (unclear l) = l
line_saying (other l) = l
