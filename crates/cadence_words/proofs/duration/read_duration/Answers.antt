use Rattle.std.proofs.Common.{rules, ◌≡◌, None}
use Rattle.cadence_words.proofs.Durations.{duration_found, few_nanos}
use Rattle.cadence_words.proofs.duration.read_duration.Goals as goal

pub returns-in_err-nanos : goal.returns-in_err-nanos
returns-in_err-nanos c =
    let none : c.from_residual.result ≡ None = search rules in
    rw none (λ n d. c.in_err-nanos.ensures d.nanos (d.written, few_nanos c.args.kind d.nanos n d.counts))

pub returns : goal.returns
returns c =
    duration_found c.args.kind c.args.word.now c.in_ok-nanos.nanos c.value_of.result c.in_ok-nanos.ensures.0 c.value_of.ensures
