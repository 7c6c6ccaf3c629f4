-- The sums of the bytes and packets that were sent and dropped, each modulo 2^64.
use Rattle.std.specs.Prelude.{ℕ, ◌+◌, ◌-◌, ◌*◌, ◌%◌, ◌^◌, Bool, true, false, length, Result, Ok, Err}
use Rattle.std.specs.List.{concat}
use Rattle.cadence_errors.specs.declared.SinkError.{SinkError}
use Rattle.cadence_flow.specs.Writer.{PacketHistory, WriterKind}
use Rattle.cadence_flow.specs.declared.stats.SinkStats.{SinkStats}

-- four sums of 0
abbrev pub zero_sums : SinkStats
zero_sums = record { bytes_sent = 0; packets_sent = 0; bytes_dropped = 0; packets_dropped = 0 }

-- the sums after one more packet was sent, of n bytes
abbrev pub after_taken : SinkStats → ℕ → SinkStats
after_taken sums n =
    record sums { bytes_sent = (sums.bytes_sent + n) % 2 ^ 64; packets_sent = (sums.packets_sent + 1) % 2 ^ 64 }

-- the sums after one more packet was dropped, of n bytes
abbrev pub after_refused : SinkStats → ℕ → SinkStats
after_refused sums n =
    record sums { bytes_dropped = (sums.bytes_dropped + n) % 2 ^ 64; packets_dropped = (sums.packets_dropped + 1) % 2 ^ 64 }

-- the sums after a writer returned this result for a packet of this length
abbrev pub after_answer : SinkStats → Result ℕ SinkError → ℕ → SinkStats
after_answer sums (Ok n) len = after_taken sums n
after_answer sums (Err e) len = after_refused sums len

-- a minus b, modulo 2^64
abbrev pub less : ℕ → ℕ → ℕ
less a b = (a + (2 ^ 64 - 1) * b) % 2 ^ 64

-- the sums that a counting writer began with, if after this history its sums are these
abbrev pub start_of : SinkStats → PacketHistory → SinkStats
start_of sums h =
    record {
      bytes_sent = less sums.bytes_sent (length (concat h.packets));
      packets_sent = less sums.packets_sent (length h.packets);
      bytes_dropped = less sums.bytes_dropped h.refused_bytes;
      packets_dropped = less sums.packets_dropped h.refusals;
    }

-- the sums that a counting writer began with; they mean nothing, and are 0, if the writer doesn't report its packets
abbrev pub start_if : Bool → SinkStats → PacketHistory → SinkStats
start_if true sums h = start_of sums h
start_if false sums h = zero_sums

-- the kind of a counting writer: that of the writer below it, which has this history, with the sums that it began with
abbrev pub counted_kind : WriterKind → PacketHistory → SinkStats → WriterKind
counted_kind kind h sums =
    record { may_give = kind.may_give; reports = kind.reports; takes_whole = kind.takes_whole; start = start_if kind.reports sums h }
