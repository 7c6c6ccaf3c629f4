-- The path of a Unix sink, a private field, as contracts name it.
use Rattle.std.specs.Prelude.{ℕ, List, string_bytes}
use Rattle.cadence_sinks.specs.declared.unix.UnixMetricSink.{UnixMetricSink}

-- the path that a Unix sink sends to
abbrev pub unix_path : {P R A : Type 0} → UnixMetricSink P R A → List ℕ
unix_path s = string_bytes s.socket.socket.path
