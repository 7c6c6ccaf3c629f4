use Rattle.std.proofs.Common.{◌<◌, ◌^◌, ◌++◌, List, arith, length, length-append, map, subst}
use Rattle.cadence_text.specs.declared.line.tag.Tag.{Tag}
use Rattle.cadence_text.specs.Metric.{Metric}
use Rattle.cadence_text.specs.Record.{metric_of, tag_of}
use Rattle.cadence_text.specs.MetricInMemory.{AreTagsInMemory, IsMetricInMemory}
use Rattle.cadence_text.proofs.writing.LineLength.{joined_utf8}
use Rattle.cadence_text.proofs.line.record.Record.push_line.Goals as goal

pub returns-clause-sized : goal.returns-clause-sized
returns-clause-sized g c =
    let inside = c.self.inside in
    let prefix = inside.head.prefix.now in
    let key = inside.head.key.now in
    let representable = c.push_head.ensures in
    let short : length (prefix ++ key) < 2 ^ 64 = omega (arith, representable.prefix.0, representable.key.0, length-append prefix key) in
    let whole : IsMetricInMemory (metric_of inside) = record {
      name = short;
      utf8 = joined_utf8 prefix key representable.prefix.1 representable.key.1;
      numbers = representable.numbers;
      rate = c.push_rate.ensures.sized;
      tags = subst (λ (ts : List Tag). AreTagsInMemory (map tag_of ts)) c.deref.ensures.value c.push_tags.ensures.sized;
      container = c.push_last.ensures.container;
      external = c.push_last.ensures.external;
      time = c.push_last.ensures.time;
    } in
    subst (λ (m : Metric). IsMetricInMemory m) c.self.view_is whole
