-- The external data of a process, by the text of `DD_EXTERNAL_ENV`.
use Rattle.std.specs.Prelude.{◌==◌, ◌&&◌, not, ℕ, Bool, if◌then◌else◌, Option, None, Some, List, [], ◌∷◌, filter}
use Rattle.std.specs.Char.{is_ascii_control}
use Rattle.std.specs.Option.{option_or}

-- whether the byte or the character stays: it is no bar (124) and no control character of ASCII
abbrev pub stays : ℕ → Bool
stays c = not (c == 124) && not (is_ascii_control c)

-- the external data that a text says: the bytes of it that stay
abbrev pub external_of : List ℕ → List ℕ
external_of text = filter stays text

-- the text, or none if it is empty
abbrev pub text_if_any : List ℕ → Option (List ℕ)
text_if_any [] = None
text_if_any (c ∷ cs) = Some (c ∷ cs)

-- the external data of a client: those that the caller gives, or otherwise those of the environment, if they are wanted
abbrev pub default_external : Bool → Option (List ℕ) → List ℕ → Option (List ℕ)
default_external is_wanted given external = option_or given (if is_wanted then text_if_any external else None)
