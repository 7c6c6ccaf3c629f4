-- The counts of a sink at a moment, and by how much they grew between two moments.
use Rattle.std.specs.Prelude.{ℕ, ◌==◌, if◌then◌else◌, List, [], ◌∷◌, ◌++◌, codes}
use Rattle.cadence_flow.specs.Sums.{less}
use Rattle.cadence_agent.specs.declared.reporting.counts.Count.{Count}
use Rattle.cadence_agent.specs.declared.reporting.counts.Count.TheVariants.{BytesSent, PacketsSent}
use Rattle.cadence_agent.specs.declared.reporting.counts.Count.TheVariants.{BytesDropped, PacketsDropped, LinesDropped, LinesRefused}
use Rattle.cadence_agent.specs.declared.reporting.counts.Growth.{Growth}
use Rattle.cadence_agent.specs.declared.reporting.counts.SinkCounts.{SinkCounts}

-- the name of the counter that reports a count
abbrev pub name_of : Count → List ℕ
name_of BytesSent = codes "bytes_sent"
name_of PacketsSent = codes "packets_sent"
name_of BytesDropped = codes "bytes_dropped"
name_of PacketsDropped = codes "packets_dropped"
name_of LinesDropped = codes "lines_dropped"
name_of LinesRefused = codes "lines_refused"

-- the number of a count
abbrev pub number_of : SinkCounts → Count → ℕ
number_of counts BytesSent = counts.stats.bytes_sent
number_of counts PacketsSent = counts.stats.packets_sent
number_of counts BytesDropped = counts.stats.bytes_dropped
number_of counts PacketsDropped = counts.stats.packets_dropped
number_of counts LinesDropped = counts.lines_dropped
number_of counts LinesRefused = counts.lines_refused

-- the growth of a count by this number, or none if the number is 0
abbrev pub growth_by : Count → ℕ → List Growth
growth_by count number = if number == 0 then [] else record { count = count; number = number } ∷ []

-- the growth of a count between two moments, modulo 2^64, or none if the count stayed the same
abbrev pub growth_if_any : SinkCounts → SinkCounts → Count → List Growth
growth_if_any last now count = growth_by count (less (number_of now count) (number_of last count))

-- the growths of the counts between two moments, without those of the counts that stayed the same
abbrev pub growths_between : SinkCounts → SinkCounts → List Growth
growths_between last now =
    growth_if_any last now BytesSent ++ growth_if_any last now PacketsSent ++ growth_if_any last now BytesDropped
    ++ growth_if_any last now PacketsDropped ++ growth_if_any last now LinesDropped ++ growth_if_any last now LinesRefused

-- the counts after this number was subtracted from this one of them, modulo 2^64
abbrev pub less_in : SinkCounts → Count → ℕ → SinkCounts
less_in counts BytesSent n = record counts { stats = record counts.stats { bytes_sent = less counts.stats.bytes_sent n } }
less_in counts PacketsSent n = record counts { stats = record counts.stats { packets_sent = less counts.stats.packets_sent n } }
less_in counts BytesDropped n = record counts { stats = record counts.stats { bytes_dropped = less counts.stats.bytes_dropped n } }
less_in counts PacketsDropped n =
    record counts { stats = record counts.stats { packets_dropped = less counts.stats.packets_dropped n } }
less_in counts LinesDropped n = record counts { lines_dropped = less counts.lines_dropped n }
less_in counts LinesRefused n = record counts { lines_refused = less counts.lines_refused n }

-- the counts after a growth was taken back
abbrev pub without_growth : SinkCounts → Growth → SinkCounts
without_growth counts growth = less_in counts growth.count growth.number
