-- The text that lists the metrics of a packet.
use Rattle.std.specs.Prelude.{◌≡◌, ℕ, List, codes}
use Rattle.std.specs.List.{flat_map}
use Rattle.cadence_cli.specs.Escapes.{text_line}
use Rattle.cadence_text.specs.Line.{line_of}
use Rattle.cadence_text.specs.Metric.{Metric}
use Rattle.cadence_read.specs.Listed.{IsListOf}

-- the text that lists metrics: for each a line of a report, with the label `line` and the metric's line
abbrev pub listing_of : List Metric → List ℕ
listing_of metrics = flat_map (λ metric. text_line (codes "line") (line_of metric)) metrics

-- The first text is the packet of some metrics, and the second text lists them.
abbrev pub IsLinesOf : List ℕ → List ℕ → Type 0
IsLinesOf packet text = (metrics : List Metric) × IsListOf packet metrics × (text ≡ listing_of metrics)
