-- Which texts of switches say yes, which say no, and which say that nothing is sent.
use Rattle.std.specs.Prelude.{◌≡◌, ◌⊎◌, ◌||◌, ℕ, Bool, List, [], IsTrue, codes}
use Rattle.std.specs.Str.{bytes_eq}

-- whether a text says yes
abbrev pub is_yes : List ℕ → Bool
is_yes text =
    bytes_eq text (codes "1") || (bytes_eq text (codes "true") || (bytes_eq text (codes "True") || bytes_eq text (codes "yes")))

-- whether a text says no
abbrev pub is_no : List ℕ → Bool
is_no text =
    bytes_eq text (codes "0") || (bytes_eq text (codes "false") || (bytes_eq text (codes "False") || bytes_eq text (codes "no")))

-- whether texts of `DD_DOGSTATSD_DISABLE` and of `STATSD_ENABLED` say that nothing is sent
abbrev pub turns_off : List ℕ → List ℕ → Bool
turns_off disable enabled = is_yes disable || is_no enabled

-- The text is empty, or says yes or no.
abbrev pub IsSwitch : List ℕ → Type 0
IsSwitch text = (text ≡ []) ⊎ (IsTrue (is_yes text) ⊎ IsTrue (is_no text))
