-- What sinks over sockets may return for a line, and which errors they have.
use Rattle.std.specs.Prelude.{◌≡◌, ◌<◌, ◌≤◌, ℕ, Bool, true, false, List, length, ◌⊎◌, Result, MatchResult, IfErr}
use Rattle.cadence_errors.specs.declared.SinkError.{SinkError}
use Rattle.cadence_errors.specs.declared.SinkError.TheVariants.{Io, NothingWritten}
use Rattle.cadence_flow.specs.Sums.{zero_sums}
use Rattle.cadence_flow.specs.Writer.{WriterKind}

-- whether an error is an `io::Error`
abbrev pub is_io : SinkError → Bool
is_io (Io e) = true
is_io _ = false

-- The result is a number of bytes of at most the text's length, or an error that the socket may return.
abbrev pub IsSocketAnswer : (SinkError → Bool) → List ℕ → Result ℕ SinkError → Type 0
IsSocketAnswer may_give text answer = MatchResult answer (λ n. n ≤ length text) (λ e. may_give e ≡ true)

-- The error is one that the socket may return, or `NothingWritten`.
abbrev pub IsBufferedError : (SinkError → Bool) → SinkError → Type 0
IsBufferedError may_give e = (may_give e ≡ true) ⊎ (e ≡ NothingWritten)

-- The result of a buffered sink is a number of bytes of at most the text's length, an error that the socket may return,
-- or `NothingWritten`. If the text with a newline fits into an empty buffer, the number is the text's length.
abbrev pub IsBufferedAnswer : (SinkError → Bool) → ℕ → List ℕ → Result ℕ SinkError → Type 0
IsBufferedAnswer may_give buffer text answer =
    MatchResult answer
    (λ n. (n ≤ length text) × (length text < buffer → n ≡ length text))
    (IsBufferedError may_give)

-- A flush of a buffered sink succeeds, or has an error that the socket may return, or `NothingWritten`.
abbrev pub IsBufferedFlush : (SinkError → Bool) → Result (Unit {0}) SinkError → Type 0
IsBufferedFlush may_give answer = IfErr answer (IsBufferedError may_give)

-- a socket as a writer of packets: it has these errors, contracts don't see its packets, and it may take only the first
-- bytes of a packet
abbrev pub socket_kind : (SinkError → Bool) → WriterKind
socket_kind may_give = record { may_give = may_give; reports = false; takes_whole = false; start = zero_sums }
