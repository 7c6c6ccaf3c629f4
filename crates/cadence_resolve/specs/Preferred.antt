-- Which address of a host a socket sends to.
use Rattle.std.specs.Prelude.{Bool, true, false, Option, Some, None, if◌then◌else◌}
use Rattle.std.specs.declared.net.socket_addr.SocketAddr.{SocketAddr}
use Rattle.std.specs.declared.net.socket_addr.SocketAddr.TheVariants as address
use Rattle.cadence_resolve.specs.declared.preferred.Family.{Family}
use Rattle.cadence_resolve.specs.declared.preferred.Family.TheVariants.{V4, V6}

-- whether an address is of a family
abbrev pub is_of : Family → SocketAddr → Bool
is_of V4 (address.V4 a) = true
is_of V6 (address.V6 a) = true
is_of _ _ = false

-- the address that is sent to if both can be: the earlier one, unless only the later one is of the socket's family
abbrev pub preferred : Family → Option SocketAddr → SocketAddr → SocketAddr
preferred family None later = later
preferred family (Some earlier) later =
    if is_of family earlier then earlier else if is_of family later then later else earlier
