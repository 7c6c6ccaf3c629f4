use Rattle.std.specs.Prelude.{string_bytes}
use Rattle.std.proofs.Common.{[], ◌++◌, sym, ap, append_assoc, drop, take}
use Rattle.cadence_aggregate.specs.Server.{timing}
use Rattle.cadence_aggregate.proofs.Tables.{none_sent, popped}
use Rattle.cadence_aggregate.proofs.timings.send_oldest.Goals as goal

pub returns-clause-same : goal.returns-clause-same
returns-clause-same g c =
    let first = popped (λ e. timing (string_bytes e.0) (string_bytes e.1)) c.args.timings.now.entries (c.in-Some.context.now, c.in-Some.text.now) (sym c.in-Some.ensures) in
    rw (c.in_ok-send-in-Some.ensures.ok, c.pop_lru.ensures.entries, append_assoc, c.as_str.ensures.value, c.as_str-in-Some.ensures.value)
    (ap (λ t. g.S.LineSink.sent c.args.sink.now ++ t) first)

pub returns-clause-first : goal.returns-clause-first
returns-clause-first g c =
    let first = popped (λ e. timing (string_bytes e.0) (string_bytes e.1)) c.args.timings.now.entries (c.in-Some.context.now, c.in-Some.text.now) (sym c.in-Some.ensures) in
    rw (c.in_ok-send-in-Some.ensures.ok, c.as_str.ensures.value, c.as_str-in-Some.ensures.value)
    (ap (λ t. g.S.LineSink.sent c.args.sink.now ++ take 1 t) first)

pub returns-clause-left : goal.returns-clause-left
returns-clause-left g c =
    let first = popped (λ e. timing (string_bytes e.0) (string_bytes e.1)) c.args.timings.now.entries (c.in-Some.context.now, c.in-Some.text.now) (sym c.in-Some.ensures) in
    rw c.pop_lru.ensures.entries (ap (λ t. drop 1 t) first)

pub returns-in-None-clause-first : goal.returns-in-None-clause-first
returns-in-None-clause-first g c = (none_sent (λ e. timing (string_bytes e.0) (string_bytes e.1)) c.args.timings.now.entries (g.S.LineSink.sent c.args.sink.now) (sym c.in-None.ensures)).0

pub returns-in-None-clause-left : goal.returns-in-None-clause-left
returns-in-None-clause-left g c = (none_sent (λ e. timing (string_bytes e.0) (string_bytes e.1)) c.args.timings.now.entries [] (sym c.in-None.ensures)).1
