-- What contracts show of a sink to the destination of an environment, and of a client with its tags.
use Rattle.std.specs.Prelude.{◌≡◌, ◌≤◌, ◌++◌, ⊤, ℕ, List, Result, Ok, IfErr, string_bytes}
use Rattle.cadence_errors.specs.declared.SinkError.{SinkError}
use Rattle.cadence_stage.specs.Answered.{IsAnswered, IsFlushAnswered, answered_by_holding_nothing}
use Rattle.cadence_stage.specs.Held.{NothingIsHeld}
use Rattle.cadence_text.specs.Metric.{Tag}
use Rattle.cadence_settings.specs.Settings.{Settings}
use Rattle.cadence_sinks.specs.Buffers.{udp_buffer, unix_buffer}
use Rattle.cadence_sinks.specs.Sockets.{IsBufferedAnswer, IsBufferedFlush, is_io}
use Rattle.cadence_environment.specs.Paths.{IsPath}
use Rattle.cadence_environment.specs.declared.destination.Destination.{Destination}
use Rattle.cadence_environment.specs.declared.destination.Destination.TheVariants as place
use Rattle.cadence_agent.specs.declared.environment.sink.EnvironmentSink.{EnvironmentSink}
use Rattle.cadence_agent.specs.declared.environment.sink.EnvironmentSink.TheVariants.{Nowhere, Udp, Unix}

-- The sink may return this for a line: what a sink with its buffer returns, or 0 if it sends nothing.
abbrev pub MayAnswer : {R A : Type 0} → EnvironmentSink R A → List ℕ → Result ℕ SinkError → Type 0
MayAnswer (Udp s) line answer = IsBufferedAnswer is_io (udp_buffer s) line answer × IsAnswered line answer
MayAnswer (Unix s) line answer = IsBufferedAnswer is_io (unix_buffer s) line answer × IsAnswered line answer
MayAnswer (Nowhere s) line answer = answer ≡ Ok 0

-- The sink may return this for a flush. If it sends nothing, a flush can't fail.
abbrev pub MayFlush : {R A : Type 0} → EnvironmentSink R A → Result (Unit {0}) SinkError → Type 0
MayFlush (Udp s) answer = IsBufferedFlush is_io answer × IsFlushAnswered answer
MayFlush (Unix s) answer = IsBufferedFlush is_io answer × IsFlushAnswered answer
MayFlush (Nowhere s) answer = IfErr answer (λ _. ⊥)

-- for the law of each sink that a flush may succeed
pub flush_may_succeed : {R A : Type 0} (s : EnvironmentSink R A) → NothingIsHeld → MayFlush s (Ok tt)
flush_may_succeed (Udp s) held = (tt, answered_by_holding_nothing held)
flush_may_succeed (Unix s) held = (tt, answered_by_holding_nothing held)
flush_may_succeed (Nowhere s) held = tt

-- The sink has a buffer as large as a UDP datagram can be at the most, or of 8192 bytes over a Unix socket, or sends
-- nothing.
abbrev pub HasAgentBuffer : {R A : Type 0} → EnvironmentSink R A → Type 0
HasAgentBuffer (Udp s) = udp_buffer s ≤ 65507
HasAgentBuffer (Unix s) = unix_buffer s ≡ 8192
HasAgentBuffer (Nowhere s) = ⊤

-- The sink sends to a destination of this kind, with a buffer of as many bytes as the destination says, or nowhere. A
-- sink over a Unix socket is made only for a text that can be a path.
abbrev pub GoesTo : {A B R : Type 0} → Destination A → EnvironmentSink R B → Type 0
GoesTo (place.Udp host port capacity only_ipv6) (Udp s) = udp_buffer s ≡ capacity
GoesTo (place.Unix path) (Unix s) = (unix_buffer s ≡ 8192) × IsPath (string_bytes path)
GoesTo place.Nowhere (Nowhere s) = ⊤
GoesTo _ _ = ⊥

-- the settings with these default tags too, after their own
abbrev pub with_tags : Settings → List Tag → Settings
with_tags s tags = record s { tags = s.tags ++ tags }
