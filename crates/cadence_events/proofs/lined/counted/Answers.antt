use Rattle.std.proofs.Common.{◌+◌, ◌-◌, ◌^◌, [], ◌++◌, ℕ, ap, arith, length}
use Rattle.std.specs.Prelude.{min}
use Rattle.std.proofs.lemmas.List.{length-append, length-replicate}
use Rattle.std.specs.Option.{option_copied}
use Rattle.cadence_events.specs.Cleaned.{sent_common}
use Rattle.cadence_events.specs.Lined.{common_of, line_after}
use Rattle.cadence_events.proofs.lined.counted.Goals as goal

pub returns : goal.returns
returns g c =
    let line = line_after (g.L.Lined.spelled c.args.is_cleaned c.args.source.now) c.args.tags.now
    (sent_common c.args.is_cleaned (option_copied c.args.container) (common_of c.args.common.now)) in
    let begun = c.new-counter.result.length in
    let count = c.push_to.new.line.length in
    omega (
      arith,
      ap length (c.push_to.ensures.taken []),
      length-replicate {A = ℕ} (min (count + 0) (2 ^ 128 - 1)) 0,
      length-replicate {A = ℕ} (min (begun + length (line ++ [])) (2 ^ 128 - 1)) 0,
      length-append line [],
      c.new-counter.ensures,
      c.length.ensures,
      c.length.type_inv,
    )
