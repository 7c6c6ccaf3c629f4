-- Why nothing is read from the environment.
use Rattle.std.specs.Prelude.{◌≡◌, ◌≢◌, ◌⊎◌, ⊤, ℕ, List, [], IsFalse}
use Rattle.cadence_value.specs.Finds.{HasNone}
use Rattle.cadence_errors.specs.declared.input_error.InputError.{InputError}
use Rattle.cadence_errors.specs.declared.input_error.InputError.TheVariants.{Unusable, OutOfMemory}
use Rattle.cadence_environment.specs.Destinations.{IsAbsolute, IsPathUrl}
use Rattle.cadence_environment.specs.Switches.{turns_off}
use Rattle.cadence_environment.specs.declared.variables.Variable.{Variable}
use Rattle.cadence_environment.specs.declared.variables.Variable.TheVariants.{Url, Socket, AgentHost, AgentPort, StatsdHost, StatsdPort}
use Rattle.cadence_environment.specs.declared.variables.Variable.TheVariants.{Env, Service, Version, Tags, EntityId, Disable, Enabled, MaxSize, Prefix, Origin, Ipv6, External, Cardinality, DatadogCardinality}
use Rattle.cadence_environment.specs.declared.variables.Variables.{Variables}

-- The error names this variable, or says that memory ran out.
abbrev pub IsFaultOf : Variable → InputError Variable → Type 0
IsFaultOf variable (Unusable other) = other ≡ variable
IsFaultOf variable OutOfMemory = ⊤

-- This holds, or the error says that memory ran out.
abbrev pub IsMemoryOr : Type 0 → InputError Variable → Type 0
IsMemoryOr fact (Unusable variable) = fact
IsMemoryOr fact OutOfMemory = ⊤

-- The variables don't say that nothing is sent.
abbrev pub IsOn : Variables → Type 0
IsOn v = IsFalse (turns_off v.disable.now v.enabled.now)

-- The variable is set, and no other one overrides it.
abbrev pub IsRead : Variables → Variable → Type 0
IsRead v Url = IsOn v × (v.url.now ≢ [])
IsRead v Socket = IsOn v × (v.url.now ≡ []) × (v.socket.now ≢ [])
IsRead v AgentHost = IsOn v × (v.url.now ≡ []) × (v.socket.now ≡ []) × (v.agent_host.now ≢ [])
IsRead v AgentPort = IsOn v × (v.url.now ≡ []) × (v.socket.now ≡ []) × (v.agent_port.now ≢ [])
IsRead v StatsdHost = IsOn v × (v.url.now ≡ []) × (v.socket.now ≡ []) × (v.agent_host.now ≡ []) × (v.agent_port.now ≡ []) × (v.statsd_host.now ≢ [])
IsRead v StatsdPort = IsOn v × (v.url.now ≡ []) × (v.socket.now ≡ []) × (v.agent_host.now ≡ []) × (v.agent_port.now ≡ []) × (v.statsd_port.now ≢ [])
IsRead v Env = v.env.now ≢ []
IsRead v Service = v.service.now ≢ []
IsRead v Version = v.version.now ≢ []
IsRead v Tags = v.tags.now ≢ []
IsRead v EntityId = v.entity_id.now ≢ []
IsRead v Disable = v.disable.now ≢ []
IsRead v Enabled = v.enabled.now ≢ []
IsRead v MaxSize = IsOn v × (v.max_size.now ≢ [])
IsRead v Prefix = v.prefix.now ≢ []
IsRead v Origin = v.origin.now ≢ []
IsRead v Ipv6 = IsOn v × (v.ipv6.now ≢ [])
IsRead v External = v.external.now ≢ []
IsRead v Cardinality = v.cardinality.now ≢ []
IsRead v DatadogCardinality = (v.cardinality.now ≡ []) × (v.datadog_cardinality.now ≢ [])

-- The error names a variable that is set and that no other one overrides, or says that memory ran out.
abbrev pub IsRefusedVariable : Variables → InputError Variable → Type 0
IsRefusedVariable v (Unusable variable) = IsRead v variable
IsRefusedVariable v OutOfMemory = ⊤

-- The error doesn't name a variable that says the path of a Unix socket.
abbrev pub NamesNoPath : Variables → InputError Variable → Type 0
NamesNoPath v (Unusable Url) = HasNone (IsPathUrl v.url.now)
NamesNoPath v (Unusable Socket) = IsAbsolute v.socket.now → ⊥
NamesNoPath v _ = ⊤

-- The error names this variable, which is set, or says that memory ran out.
abbrev pub IsSetFault : Variable → List ℕ → InputError Variable → Type 0
IsSetFault variable text (Unusable other) = (other ≡ variable) × (text ≢ [])
IsSetFault variable text OutOfMemory = ⊤

-- The error names one of two variables, which is set, or says that memory ran out.
abbrev pub IsPairFault : Variable → List ℕ → Variable → List ℕ → InputError Variable → Type 0
IsPairFault host host_text port port_text e = IsSetFault host host_text e ⊎ IsSetFault port port_text e

-- The error names the one of the two variables of the cardinality that is read, which is set, or says that memory ran out.
abbrev pub IsCardinalityFault : List ℕ → List ℕ → InputError Variable → Type 0
IsCardinalityFault first second e =
    IsSetFault Cardinality first e ⊎ ((first ≡ []) × IsSetFault DatadogCardinality second e)
