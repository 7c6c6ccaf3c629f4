-- Why a packet is not sent to a path, and why a socket or a sink to an agent is not made.
use Rattle.std.specs.Prelude.{◌≡◌, ⊤, ℕ, List, None, IsSome, string_bytes}
use Rattle.std.specs.IoError.{error_kind, raw_os_error}
use Rattle.std.specs.declared.io.ErrorKind.TheVariants as io_kind
use Rattle.cadence_errors.specs.declared.ErrorKind.TheVariants as kind
use Rattle.cadence_errors.specs.declared.MetricError.{MetricError}
use Rattle.cadence_errors.specs.declared.MetricError.TheVariants.{Sink, Described}
use Rattle.cadence_errors.specs.declared.SinkError.{SinkError}
use Rattle.cadence_errors.specs.declared.SinkError.TheVariants.{Io, OutOfMemory}
use Rattle.cadence_environment.specs.Paths.{IsFault, IsPath}
use Rattle.cadence_environment.specs.declared.destination.Destination.{Destination}
use Rattle.cadence_environment.specs.declared.destination.Destination.TheVariants as place
use Rattle.cadence_environment.specs.declared.path.PathError.{PathError}

-- The error is one of the system: it has a code of the system.
abbrev pub IsOfSystem : SinkError → Type 0
IsOfSystem (Io e) = IsSome (raw_os_error e)
IsOfSystem _ = ⊥

-- The error says that a path can't be used: it has the kind `InvalidInput`, and no code of the system.
abbrev pub IsOfPath : SinkError → Type 0
IsOfPath (Io e) = (error_kind e ≡ io_kind.InvalidInput) × (raw_os_error e ≡ None)
IsOfPath _ = ⊥

-- The call failed with an error of the system.
abbrev pub IsSystemRefusal : MetricError → Type 0
IsSystemRefusal (Sink e) = IsOfSystem e
IsSystemRefusal _ = ⊥

-- A sink is not made because its path has a fault, and then the kind is `InvalidInput`. If the path has none, the
-- system refused the socket, or memory ran out.
abbrev pub IsUnixRefusal : List ℕ → MetricError → Type 0
IsUnixRefusal path (Described k text) = (k ≡ kind.InvalidInput) × ((fault : PathError) × IsFault path fault)
IsUnixRefusal path (Sink (Io e)) = IsPath path
IsUnixRefusal path (Sink OutOfMemory) = IsPath path
IsUnixRefusal path _ = ⊥

-- The destination may be an invalid input. Each host may be one, because it may have no address. A path is one if and
-- only if it has a fault.
abbrev pub MayBeInvalid : {A : Type 0} → Destination A → Type 0
MayBeInvalid place.Nowhere = ⊥
MayBeInvalid (place.Udp host port capacity only_ipv6) = ⊤
MayBeInvalid (place.Unix path) = (fault : PathError) × IsFault (string_bytes path) fault

-- A sink to a destination is not made because the destination is an invalid input, because the system refused the
-- lookup or the socket, or because memory ran out.
abbrev pub IsPlaceRefusal : {A : Type 0} → Destination A → MetricError → Type 0
IsPlaceRefusal destination (Described k text) = (k ≡ kind.InvalidInput) × MayBeInvalid destination
IsPlaceRefusal destination (Sink (Io e)) = ⊤
IsPlaceRefusal destination (Sink OutOfMemory) = ⊤
IsPlaceRefusal destination _ = ⊥

-- A sink to the place that the environment says is not made because a variable or that place is an invalid input,
-- because the system refused the lookup or the socket, or because memory ran out.
abbrev pub IsEnvironmentRefusal : MetricError → Type 0
IsEnvironmentRefusal (Described k text) = k ≡ kind.InvalidInput
IsEnvironmentRefusal (Sink (Io e)) = ⊤
IsEnvironmentRefusal (Sink OutOfMemory) = ⊤
IsEnvironmentRefusal _ = ⊥
