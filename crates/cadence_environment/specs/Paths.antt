-- Which texts can be the path of a Unix socket.
use Rattle.std.specs.Prelude.{◌≡◌, ◌≢◌, ◌<◌, ◌≤◌, ℕ, List, [], length}
use Rattle.std.specs.List.{All, Contains}
use Rattle.cadence_environment.specs.declared.path.PathError.{PathError}
use Rattle.cadence_environment.specs.declared.path.PathError.TheVariants.{Empty, Nul, TooLong}

-- The text can be the path of a Unix socket: it has from 1 to 107 bytes, and none of them is a NUL.
pub record IsPath (text : List ℕ) : Type 0 where
  pub some : text ≢ []
  pub no_nul : All (λ byte. byte ≢ 0) text
  pub short : length text ≤ 107

-- The text has this fault, because of which it can't be the path of a Unix socket.
abbrev pub IsFault : List ℕ → PathError → Type 0
IsFault text Empty = text ≡ []
IsFault text Nul = Contains text 0
IsFault text TooLong = 107 < length text
