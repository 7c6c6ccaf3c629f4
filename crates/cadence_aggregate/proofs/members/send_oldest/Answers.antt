use Rattle.std.specs.Prelude.{string_bytes}
use Rattle.std.proofs.Common.{[], ◌++◌, sym, ap, append_assoc, drop, take}
use Rattle.cadence_aggregate.specs.Server.{member}
use Rattle.cadence_aggregate.proofs.Tables.{none_sent, popped}
use Rattle.cadence_aggregate.proofs.Within.{within_both}
use Rattle.cadence_aggregate.proofs.members.send_oldest.Goals as goal

pub returns-clause-same : goal.returns-clause-same
returns-clause-same g c =
    let first = popped (λ e. member (string_bytes e.0)) c.args.members.now.entries (c.in-Some.context.now, c.in-Some.field-0-1.now) (sym c.in-Some.ensures) in
    rw (c.in_ok-send-in-Some.ensures.ok, c.pop_lru.ensures.entries, append_assoc, c.as_str.ensures.value)
    (ap (λ t. g.S.LineSink.sent c.args.sink.now ++ t) first)

pub returns-clause-within : goal.returns-clause-within
returns-clause-within g c =
    λ most within. rw c.in_ok-send-in-Some.ensures.ok (within_both most (g.S.LineSink.sent c.args.sink.now) _ within tt)

pub returns-clause-first : goal.returns-clause-first
returns-clause-first g c =
    let first = popped (λ e. member (string_bytes e.0)) c.args.members.now.entries (c.in-Some.context.now, c.in-Some.field-0-1.now) (sym c.in-Some.ensures) in
    rw (c.in_ok-send-in-Some.ensures.ok, c.as_str.ensures.value)
    (ap (λ t. g.S.LineSink.sent c.args.sink.now ++ take 1 t) first)

pub returns-clause-left : goal.returns-clause-left
returns-clause-left g c =
    let first = popped (λ e. member (string_bytes e.0)) c.args.members.now.entries (c.in-Some.context.now, c.in-Some.field-0-1.now) (sym c.in-Some.ensures) in
    rw c.pop_lru.ensures.entries (ap (λ t. drop 1 t) first)

pub returns-in-None-clause-first : goal.returns-in-None-clause-first
returns-in-None-clause-first g c = (none_sent (λ e. member (string_bytes e.0)) c.args.members.now.entries (g.S.LineSink.sent c.args.sink.now) (sym c.in-None.ensures)).0

pub returns-in-None-clause-left : goal.returns-in-None-clause-left
returns-in-None-clause-left g c = (none_sent (λ e. member (string_bytes e.0)) c.args.members.now.entries [] (sym c.in-None.ensures)).1
