-- Where the variables of the environment say to send.
use Rattle.std.specs.Prelude.{◌≡◌, ◌≢◌, ◌<◌, ◌≤◌, ◌^◌, ◌⊎◌, ⊤, ℕ, Bool, true, false, Option, IfSome, List, [], ◌∷◌, ◌++◌, All, IsFalse, IsTrue, codes, slice_index, string_bytes}
use Rattle.std.specs.declared.net.socket_addr.SocketAddr.{SocketAddr}
use Rattle.cadence_resolve.specs.Preferred.{is_of}
use Rattle.cadence_resolve.specs.declared.preferred.Family.TheVariants.{V6}
use Rattle.std.specs.Str.Parse.{IsNumeral, digits_value}
use Rattle.cadence_environment.specs.Paths.{IsPath}
use Rattle.cadence_environment.specs.Switches.{IsSwitch, is_yes, turns_off}
use Rattle.cadence_environment.specs.declared.destination.Destination.{Destination}
use Rattle.cadence_environment.specs.declared.destination.Destination.TheVariants.{Nowhere, Udp, Unix}
use Rattle.cadence_environment.specs.declared.variables.Variables.{Variables}

-- The text writes this port in digits: a number from 1 to 65535.
pub record IsPort (text : List ℕ) (port : ℕ) : Type 0 where
  pub numeral : IsNumeral 10 text
  pub written : port ≡ digits_value 10 text
  pub some : 0 < port
  pub fits : port < 2 ^ 16

-- The text writes this number of bytes in digits: from 1 to 65507, the most that a UDP datagram holds.
pub record IsSize (text : List ℕ) (size : ℕ) : Type 0 where
  pub numeral : IsNumeral 10 text
  pub written : size ≡ digits_value 10 text
  pub some : 0 < size
  pub fits : size ≤ 65507

-- The byte can be in a host: it is no space, slash, bracket or control character of ASCII.
abbrev pub IsHostByte : ℕ → Type 0
IsHostByte byte = (32 < byte) × (byte ≢ 47) × (byte ≢ 91) × (byte ≢ 93) × (byte ≢ 127)

-- The text can be a host: a name, or an address without brackets.
abbrev pub IsHost : List ℕ → Type 0
IsHost text = (text ≢ []) × All IsHostByte text

-- The text is this host, with or without brackets round it.
pub record NamesHost (text host : List ℕ) : Type 0 where
  pub fit : IsHost host
  pub shown : (text ≡ host) ⊎ (text ≡ 91 ∷ (host ++ 93 ∷ []))

-- If the text is empty, the port is 8125. Otherwise it is a colon and the port.
abbrev pub EndsWithPort : List ℕ → ℕ → Type 0
EndsWithPort [] port = port ≡ 8125
EndsWithPort (c ∷ digits) port = (c ≡ 58) × IsPort digits port

-- The text is a host, and after it nothing or a colon and a port. The host has brackets round it, or no colon.
pub record IsAuthority (text host : List ℕ) (port : ℕ) : Type 0 where
  pub shown : List ℕ
  pub rest : List ℕ
  pub whole : text ≡ shown ++ rest
  pub fit : IsHost host
  pub shows : ((shown ≡ host) × All (λ byte. byte ≢ 58) host) ⊎ (shown ≡ 91 ∷ (host ++ 93 ∷ []))
  pub ends : EndsWithPort rest port

-- The text can be the path of a Unix socket, and begins at the root.
abbrev pub IsAbsolute : List ℕ → Type 0
IsAbsolute text = IsPath text × (slice_index text 0 ≡ 47)

-- The text is this path of a Unix socket, and begins at the root.
abbrev pub SaysPath : {A : Type 0} → List ℕ → Destination A → Type 0
SaysPath text Nowhere = ⊥
SaysPath text (Udp host port capacity only_ipv6) = ⊥
SaysPath text (Unix path) = (string_bytes path ≡ text) × IsAbsolute text

-- The URL has this after `unix://` or `unixgram://`, which mean the same.
abbrev pub HasAfterUnix : List ℕ → List ℕ → Type 0
HasAfterUnix url text = (url ≡ codes "unix://" ++ text) ⊎ (url ≡ codes "unixgram://" ++ text)

-- The URL says this path of a Unix socket.
abbrev pub IsPathUrl : List ℕ → List ℕ → Type 0
IsPathUrl url path = HasAfterUnix url path × IsAbsolute path

-- The URL says this destination: udp://HOST, udp://HOST:PORT, unix:///PATH or unixgram:///PATH.
abbrev pub SaysUrl : {A : Type 0} → List ℕ → Destination A → Type 0
SaysUrl url Nowhere = ⊥
SaysUrl url (Udp host port capacity only_ipv6) =
    (text : List ℕ) × (url ≡ codes "udp://" ++ text) × IsAuthority text (string_bytes host) port
SaysUrl url (Unix path) = IsPathUrl url (string_bytes path)

-- The text of a variable says this host. If the variable is not set, the host is this machine.
pub record SaysHost (text host : List ℕ) : Type 0 where
  pub unset : text ≡ [] → host ≡ codes "127.0.0.1"
  pub set : text ≢ [] → NamesHost text host

-- The text of a variable says this port. If the variable is not set, the port is 8125.
pub record SaysPort (text : List ℕ) (port : ℕ) : Type 0 where
  pub unset : text ≡ [] → port ≡ 8125
  pub set : text ≢ [] → IsPort text port

-- The texts of two variables say this host and this port.
abbrev pub SaysHostAndPort : {A : Type 0} → List ℕ → List ℕ → Destination A → Type 0
SaysHostAndPort host_text port_text Nowhere = ⊥
SaysHostAndPort host_text port_text (Udp host port capacity only_ipv6) = SaysHost host_text (string_bytes host) × SaysPort port_text port
SaysHostAndPort host_text port_text (Unix path) = ⊥

-- The text of a variable says this number of bytes. If the variable is not set, it is 1432.
pub record SaysSize (text : List ℕ) (size : ℕ) : Type 0 where
  pub unset : text ≡ [] → size ≡ 1432
  pub set : text ≢ [] → IsSize text size

-- A packet to the destination has as many bytes as the text of a variable says, if it is sent over UDP.
abbrev pub SaysCapacity : {A : Type 0} → List ℕ → Destination A → Type 0
SaysCapacity text (Udp host port capacity only_ipv6) = SaysSize text capacity
SaysCapacity text _ = ⊤

-- A packet to the destination has this number of bytes, if it is sent over UDP.
abbrev pub HasCapacity : {A : Type 0} → ℕ → Destination A → Type 0
HasCapacity size (Udp host port capacity only_ipv6) = capacity ≡ size
HasCapacity size _ = ⊤

-- A host is looked up for addresses of IPv6 alone if the text of a variable says yes.
abbrev pub SaysFamily : {A : Type 0} → List ℕ → Destination A → Type 0
SaysFamily text (Udp host port capacity only_ipv6) = only_ipv6 ≡ is_yes text
SaysFamily text _ = ⊤

-- A host is looked up for addresses of IPv6 alone, or not, as this says.
abbrev pub HasFamily : {A : Type 0} → Bool → Destination A → Type 0
HasFamily wanted (Udp host port capacity only_ipv6) = only_ipv6 ≡ wanted
HasFamily wanted _ = ⊤

-- whether the host of the destination is looked up for addresses of IPv6 alone
abbrev pub only_ipv6_of : {A : Type 0} → Destination A → Bool
only_ipv6_of (Udp host port capacity only_ipv6) = only_ipv6
only_ipv6_of _ = false

-- If only addresses of IPv6 are looked up, this one, if there is one, is of IPv6.
abbrev pub IsSentTo : Bool → Option SocketAddr → Type 0
IsSentTo only_ipv6 found = only_ipv6 ≡ true → IfSome found (λ address. is_of V6 address ≡ true)

-- how many bytes a packet to the destination has
abbrev pub capacity_of : {A : Type 0} → Destination A → ℕ
capacity_of (Udp host port capacity only_ipv6) = capacity
capacity_of _ = 8192

-- The variables choose this target. `DD_DOGSTATSD_URL` wins over all others, and `DD_DOGSTATSD_SOCKET` over the rest.
-- `DD_AGENT_HOST` and `DD_DOGSTATSD_PORT` win over the last two, even if only one of them is set.
pub record ChoosesTarget {A : Type 0} (v : Variables) (d : Destination A) : Type 0 where
  pub url : v.url.now ≢ [] → SaysUrl v.url.now d
  pub socket : v.url.now ≡ [] → v.socket.now ≢ [] → SaysPath v.socket.now d
  pub host : v.url.now ≡ [] → v.socket.now ≡ [] → v.agent_host.now ≢ [] → SaysHostAndPort v.agent_host.now v.agent_port.now d
  pub port : v.url.now ≡ [] → v.socket.now ≡ [] → v.agent_port.now ≢ [] → SaysHostAndPort v.agent_host.now v.agent_port.now d
  pub others : v.url.now ≡ [] → v.socket.now ≡ [] → v.agent_host.now ≡ [] → v.agent_port.now ≡ [] → SaysHostAndPort v.statsd_host.now v.statsd_port.now d

-- The variables say this target: it is the one that they choose. If it is a host, its packets have the size that
-- `STATSD_MAXUDPSIZE` says, and it is looked up for addresses of IPv6 alone if `STATSD_IPV6` says yes.
pub record SaysTarget {A : Type 0} (v : Variables) (d : Destination A) : Type 0 where
  pub chosen : ChoosesTarget v d
  pub capacity : SaysCapacity v.max_size.now d
  pub switch : IsSwitch v.ipv6.now
  pub family : SaysFamily v.ipv6.now d

-- Nothing is sent.
abbrev pub IsNowhere : {A : Type 0} → Destination A → Type 0
IsNowhere Nowhere = ⊤
IsNowhere _ = ⊥

-- The variables say this destination: nowhere if one of them says that nothing is sent, and otherwise their target.
pub record SaysPlace {A : Type 0} (v : Variables) (d : Destination A) : Type 0 where
  pub disable : IsSwitch v.disable.now
  pub enabled : IsSwitch v.enabled.now
  pub off : IsTrue (turns_off v.disable.now v.enabled.now) → IsNowhere d
  pub on : IsFalse (turns_off v.disable.now v.enabled.now) → SaysTarget v d
