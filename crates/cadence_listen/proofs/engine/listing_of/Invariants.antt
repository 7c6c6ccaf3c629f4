use Rattle.std.proofs.Common.{◌≡◌, map, take, string_bytes}
use Rattle.cadence_text.specs.Owned.{metric_of_owned}
use Rattle.cadence_listen.specs.Lines.{listing_of}
use Rattle.cadence_listen.proofs.engine.listing_of.Given as goal

abbrev pub invariant-loop-metric : goal.invariant-loop-metric
invariant-loop-metric g l = string_bytes l.text ≡ listing_of (map metric_of_owned (take l.metric-index l.metrics))
