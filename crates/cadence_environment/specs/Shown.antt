-- What contracts show of an environment, whose fields are private.
use Rattle.std.specs.Prelude.{ℕ, Bool, List, Option, map, string_bytes}
use Rattle.cadence_text.specs.declared.line.enrichment.Cardinality.{Cardinality}
use Rattle.cadence_text.specs.Metric.{Tag}
use Rattle.cadence_text.specs.Owned.{tag_of_owned}
use Rattle.cadence_environment.specs.declared.destination.Destination.{Destination}
use Rattle.cadence_environment.specs.declared.read.Environment.{Environment}

-- where the environment says to send
abbrev pub destination_of : {A : Type 0} → Environment A → Destination A
destination_of e = e.destination

-- the prefix that the environment says
abbrev pub prefix_of : {A : Type 0} → Environment A → List ℕ
prefix_of e = string_bytes e.prefix

-- the tags that the environment says, in order
abbrev pub tags_of : {A : Type 0} → Environment A → List Tag
tags_of e = map tag_of_owned e.tags.items

-- whether the environment says that the default container is that of the process
abbrev pub finds_container : {A : Type 0} → Environment A → Bool
finds_container e = e.finds_container

-- the external data that the environment says, whether or not its default container is that of the process
abbrev pub external_said : {A : Type 0} → Environment A → List ℕ
external_said e = string_bytes e.external

-- the default cardinality that the environment says
abbrev pub cardinality_said : {A : Type 0} → Environment A → Option Cardinality
cardinality_said e = e.cardinality
