-- The places to which packets are sent, as texts.
use Rattle.std.specs.Prelude.{◌≡◌, ◌<◌, ◌∷◌, ◌++◌, ◌⊎◌, ℕ, List, length, IfSome, codes}
use Rattle.cadence_environment.specs.Destinations.{IsPort}
use Rattle.cadence_send.specs.declared.options.Destination.{Destination}
use Rattle.cadence_send.specs.declared.options.Destination.TheVariants.{Host, Unix}
use Rattle.cadence_send.specs.declared.options.Options.{Options}

-- The text is a host that is not empty, a colon and a port.
pub record IsTarget (text : List ℕ) : Type 0 where
  pub host : List ℕ
  pub rest : List ℕ
  pub port : ℕ
  pub whole : text ≡ host ++ 58 ∷ rest
  pub some : 0 < length host
  pub is : IsPort rest port

-- The place is a host and a port, or a path that is not empty.
abbrev pub IsUsablePlace : Destination → Type 0
IsUsablePlace (Host text) = IsTarget text.now
IsUsablePlace (Unix path) = 0 < length path.now

-- The text is this one, or `udp://` and this one.
abbrev pub SaysHost : List ℕ → List ℕ → Type 0
SaysHost text host = (host ≡ text) ⊎ (text ≡ codes "udp://" ++ host)

-- The text says this place: a host and a port, maybe behind `udp://`, or `unix:` and a path that is not empty.
abbrev pub SaysDestination : List ℕ → Destination → Type 0
SaysDestination text (Host host) = SaysHost text host.now × IsTarget host.now
SaysDestination text (Unix path) = (text ≡ codes "unix:" ++ path.now) × (0 < length path.now)

-- If the options have a place, it is a host and a port, or a path that is not empty.
abbrev pub SaysWhere : {Z : Type 0} → Options Z → Type 0
SaysWhere options = IfSome options.to IsUsablePlace
