-- What the variables of the environment say, for a host in C that read them.
use Rattle.std.specs.Prelude.{◌≡◌, ◌==◌, ◌&&◌, ◌++◌, codes, not, ℕ, List, [], Option, Some, None, Bool, if◌then◌else◌, string_bytes}
use Rattle.std.specs.Fmt.{decimal}
use Rattle.std.specs.declared.alloc.Global.{Global}
use Rattle.std.specs.Option.{unwrap_or}
use Rattle.cadence_environment.specs.Containers.{container_of}
use Rattle.cadence_environment.specs.Destinations.{SaysPlace, capacity_of, only_ipv6_of}
use Rattle.cadence_environment.specs.EnvironmentFaults.{IsRead}
use Rattle.cadence_environment.specs.Switches.{turns_off}
use Rattle.cadence_environment.specs.TagTexts.{has_bytes}
use Rattle.cadence_environment.specs.declared.destination.Destination.{Destination}
use Rattle.cadence_environment.specs.declared.destination.Destination.TheVariants.{Nowhere, Udp, Unix}
use Rattle.cadence_errors.specs.declared.input_error.InputError.{InputError}
use Rattle.cadence_errors.specs.declared.input_error.InputError.TheVariants.{Unusable, OutOfMemory}
use Rattle.cadence_environment.specs.declared.variables.Variable.{Variable}
use Rattle.cadence_environment.specs.declared.variables.Variable.TheVariants.{Url, Socket, AgentHost, AgentPort, StatsdHost, StatsdPort}
use Rattle.cadence_environment.specs.declared.variables.Variable.TheVariants.{Env, Service, Version, Tags, EntityId, Disable, Enabled, MaxSize, Prefix, Origin, Ipv6, External, Cardinality, DatadogCardinality}
use Rattle.cadence_environment.specs.declared.variables.Variables.{Variables}
use Rattle.cadence_c.specs.declared.variable.CVariables.{CVariables}

-- The variables have these texts.
pub record HasTexts (c : CVariables) (v : Variables) : Type 0 where
  pub url : v.url.now ≡ c.url.now
  pub socket : v.socket.now ≡ c.socket.now
  pub agent_host : v.agent_host.now ≡ c.agent_host.now
  pub agent_port : v.agent_port.now ≡ c.agent_port.now
  pub statsd_host : v.statsd_host.now ≡ c.statsd_host.now
  pub statsd_port : v.statsd_port.now ≡ c.statsd_port.now
  pub env : v.env.now ≡ c.env.now
  pub service : v.service.now ≡ c.service.now
  pub version : v.version.now ≡ c.version.now
  pub tags : v.tags.now ≡ c.tags.now
  pub entity_id : v.entity_id.now ≡ c.entity_id.now
  pub disable : v.disable.now ≡ c.disable.now
  pub enabled : v.enabled.now ≡ c.enabled.now
  pub max_size : v.max_size.now ≡ c.max_size.now
  pub prefix : v.prefix.now ≡ c.prefix.now
  pub origin : v.origin.now ≡ c.origin.now
  pub ipv6 : v.ipv6.now ≡ c.ipv6.now
  pub external : v.external.now ≡ c.external.now
  pub cardinality : v.cardinality.now ≡ c.cardinality.now
  pub datadog_cardinality : v.datadog_cardinality.now ≡ c.datadog_cardinality.now

-- the text if it is read, and otherwise the empty text
abbrev pub when : Bool → List ℕ → List ℕ
when is_read text = if is_read then text else []

-- whether no variable says that nothing is sent, so that the URL is read
abbrev pub is_on : CVariables → Bool
is_on c = not (turns_off c.disable.now c.enabled.now)

-- whether the URL isn't set either, so that the path is read
abbrev pub no_url : CVariables → Bool
no_url c = is_on c && not (has_bytes c.url.now)

-- whether the path isn't set either, so that the host and the port of the agent are read
abbrev pub no_path : CVariables → Bool
no_path c = no_url c && not (has_bytes c.socket.now)

-- whether neither of these is set either, so that those of the Statsd server are read
abbrev pub no_agent : CVariables → Bool
no_agent c = (no_path c && not (has_bytes c.agent_host.now)) && not (has_bytes c.agent_port.now)

-- The variables that say where to send have these texts, but for those that another one overrides, which are empty. The
-- others are empty too.
pub record ArePlacesRead (c : CVariables) (v : Variables) : Type 0 where
  pub url : v.url.now ≡ when (is_on c) c.url.now
  pub socket : v.socket.now ≡ when (no_url c) c.socket.now
  pub agent_host : v.agent_host.now ≡ when (no_path c) c.agent_host.now
  pub agent_port : v.agent_port.now ≡ when (no_path c) c.agent_port.now
  pub statsd_host : v.statsd_host.now ≡ when (no_agent c) c.statsd_host.now
  pub statsd_port : v.statsd_port.now ≡ when (no_agent c) c.statsd_port.now
  pub env : v.env.now ≡ []
  pub service : v.service.now ≡ []
  pub version : v.version.now ≡ []
  pub tags : v.tags.now ≡ []
  pub entity_id : v.entity_id.now ≡ []
  pub disable : v.disable.now ≡ c.disable.now
  pub enabled : v.enabled.now ≡ c.enabled.now
  pub max_size : v.max_size.now ≡ when (is_on c) c.max_size.now
  pub prefix : v.prefix.now ≡ []
  pub origin : v.origin.now ≡ []
  pub ipv6 : v.ipv6.now ≡ when (is_on c) c.ipv6.now
  pub external : v.external.now ≡ []
  pub cardinality : v.cardinality.now ≡ []
  pub datadog_cardinality : v.datadog_cardinality.now ≡ []

-- The variables that say tags have these texts. The others are empty.
pub record AreTagsRead (c : CVariables) (v : Variables) : Type 0 where
  pub url : v.url.now ≡ []
  pub socket : v.socket.now ≡ []
  pub agent_host : v.agent_host.now ≡ []
  pub agent_port : v.agent_port.now ≡ []
  pub statsd_host : v.statsd_host.now ≡ []
  pub statsd_port : v.statsd_port.now ≡ []
  pub env : v.env.now ≡ c.env.now
  pub service : v.service.now ≡ c.service.now
  pub version : v.version.now ≡ c.version.now
  pub tags : v.tags.now ≡ c.tags.now
  pub entity_id : v.entity_id.now ≡ c.entity_id.now
  pub disable : v.disable.now ≡ []
  pub enabled : v.enabled.now ≡ []
  pub max_size : v.max_size.now ≡ []
  pub prefix : v.prefix.now ≡ []
  pub origin : v.origin.now ≡ []
  pub ipv6 : v.ipv6.now ≡ []
  pub external : v.external.now ≡ []
  pub cardinality : v.cardinality.now ≡ []
  pub datadog_cardinality : v.datadog_cardinality.now ≡ []

-- The destination is this host and port, or this path and the port 0, or nowhere, with no text and the port 0.
abbrev pub IsPlaceFound : {A : Type 0} → Destination A → List ℕ → ℕ → Type 0
IsPlaceFound Nowhere text port = (text ≡ []) × (port ≡ 0)
IsPlaceFound (Udp host number capacity only_ipv6) text port = (text ≡ string_bytes host) × (port ≡ number)
IsPlaceFound (Unix path) text port = (text ≡ string_bytes path) × (port ≡ 0)

-- The variables say to send to this host and port, or if the port is 0 to this path, or nowhere if the text is empty,
-- and that a packet has this number of bytes, and whether the host is looked up for addresses of IPv6 alone.
abbrev pub SaysTarget : Variables → List ℕ → ℕ → ℕ → Bool → Type 0
SaysTarget v text port capacity only_ipv6 =
    (d : Destination Global) × SaysPlace v d × IsPlaceFound d text port × (capacity ≡ capacity_of d) × (only_ipv6 ≡ only_ipv6_of d)

-- the variable that has this number in C
abbrev pub variable_named : ℕ → Option Variable
variable_named n =
    if n == 0 then Some Url else if n == 1 then Some Socket else if n == 2 then Some AgentHost else if n == 3 then Some AgentPort
    else if n == 4 then Some StatsdHost else if n == 5 then Some StatsdPort else if n == 6 then Some Env else if n == 7 then Some Service
    else if n == 8 then Some Version else if n == 9 then Some Tags else if n == 10 then Some EntityId
    else if n == 11 then Some Disable else if n == 12 then Some Enabled else if n == 13 then Some MaxSize
    else if n == 14 then Some Prefix else if n == 15 then Some Origin
    else if n == 16 then Some Ipv6 else if n == 17 then Some External else if n == 18 then Some Cardinality
    else if n == 19 then Some DatadogCardinality else None

-- The error names the variable of this number, or says that memory ran out.
abbrev pub Names : InputError Variable → ℕ → Type 0
Names (Unusable variable) n = variable_named n ≡ Some variable
Names OutOfMemory n = ⊥

-- The variable of this number is set, and no other one overrides it.
abbrev pub IsNamed : Variables → ℕ → Type 0
IsNamed v n = (variable : Variable) × (variable_named n ≡ Some variable) × IsRead v variable

-- the container that has this number as the one of its control group, or none if it has no number
abbrev pub numbered : ℕ → List ℕ
numbered inode = if inode == 0 then [] else codes "in-" ++ decimal inode

-- the text of the default container: that of the process if it is wanted, by the text of its control groups or, if that
-- has no id, by the number of its control group
abbrev pub container_text : Bool → List ℕ → ℕ → List ℕ
container_text is_wanted cgroup inode = if is_wanted then unwrap_or (container_of cgroup) (numbered inode) else []
