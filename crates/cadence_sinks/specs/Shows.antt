-- What the receipts of a packed socket show of the packer under the lock.
use Rattle.std.specs.Prelude.{◌≡◌, ◌<◌, ◌⊎◌, ℕ, Bool, List, [], Result, Ok, Err, length}
use Rattle.cadence_errors.specs.declared.SinkError.{SinkError}
use Rattle.cadence_stage.specs.Call.{Call, Flush, Line}
use Rattle.cadence_stage.specs.Kept.{Shows}
use Rattle.cadence_flow.specs.RecordedPacker.{IsPackerStep}
use Rattle.cadence_flow.specs.Writer.{history_of}
use Rattle.cadence_flow.specs.declared.packer.RecordedPacker.{RecordedPacker}
use Rattle.cadence_stage.specs.declared.kept.Receipt.{Receipt}
use Rattle.cadence_sinks.specs.Sockets.{socket_kind}
use Rattle.cadence_sinks.specs.declared.datagram.CountedSocket.{CountedSocket}
use Rattle.cadence_sinks.specs.declared.datagram.SocketWriter.{SocketWriter}

-- the packer of a sink over a socket
abbrev pub SocketLines : Type 0 → Type 0 → Type 0 → Type 0
SocketLines D R A = RecordedPacker (SocketWriter (CountedSocket D R A)) A

module _ {D R A : Type 0} (may_give : SinkError → Bool) where
  -- The packer of a socket was called so.
  abbrev pub SocketStep : SocketLines D R A → SocketLines D R A → Call → Type 0
  SocketStep old new call = IsPackerStep (λ _. socket_kind may_give) (λ w. history_of [] w.refusals) old new call

  -- The packer of a socket got just this line. The caller gets what the packer answered; of a line that with its newline
  -- fits into an empty buffer the caller gets the length, in place of the number that the packer returned.
  abbrev pub SocketShows : ℕ → Receipt (SocketLines D R A) → List ℕ → Result ℕ SinkError → Type 0
  SocketShows buffer receipt line (Err e) = Shows SocketStep receipt (Line line (Err e))
  SocketShows buffer receipt line (Ok n) =
      (taken : ℕ)
      × Shows SocketStep receipt (Line line (Ok taken))
      × ((n ≡ taken) ⊎ ((length line < buffer) × (n ≡ length line)))

  -- The packer of a socket was flushed, with this result.
  abbrev pub SocketShowsFlush : Receipt (SocketLines D R A) → Result (Unit {0}) SinkError → Type 0
  SocketShowsFlush receipt answer = Shows SocketStep receipt (Flush answer)
