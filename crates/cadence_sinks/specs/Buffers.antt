-- The capacities of buffered sinks, which are private fields, as contracts name them; and the error of one that is too
-- large.
use Rattle.std.specs.Prelude.{ℕ, codes}
use Rattle.cadence_errors.specs.Errors.{IsDescribed}
use Rattle.cadence_errors.specs.declared.ErrorKind.TheVariants.{InvalidInput}
use Rattle.cadence_errors.specs.declared.MetricError.{MetricError}
use Rattle.cadence_sinks.specs.declared.datagram.PackedSocket.{PackedSocket}
use Rattle.cadence_sinks.specs.declared.spy.buffered.BufferedSpyMetricSink.{BufferedSpyMetricSink}
use Rattle.cadence_sinks.specs.declared.udp.BufferedUdpMetricSink.{BufferedUdpMetricSink}
use Rattle.cadence_sinks.specs.declared.unix.BufferedUnixMetricSink.{BufferedUnixMetricSink}

-- the capacity of a packed socket's buffer, in bytes
abbrev pub buffer_of : {D R A : Type 0} → PackedSocket D R A → ℕ
buffer_of s = s.capacity

-- the capacity of a UDP sink's buffer, in bytes
abbrev pub udp_buffer : {R A : Type 0} → BufferedUdpMetricSink R A → ℕ
udp_buffer s = buffer_of s.socket

-- the capacity of a Unix sink's buffer, in bytes
abbrev pub unix_buffer : {P R A : Type 0} → BufferedUnixMetricSink P R A → ℕ
unix_buffer s = buffer_of s.socket

-- the capacity of a spy's buffer, in bytes
abbrev pub spy_buffer : {R A : Type 0} → BufferedSpyMetricSink R A → ℕ
spy_buffer s = s.capacity

-- The error says that a capacity is more than a datagram holds.
abbrev pub IsTooLarge : MetricError → Type 0
IsTooLarge e = IsDescribed InvalidInput (codes "the capacity is more than a datagram holds, 65507 bytes") e
