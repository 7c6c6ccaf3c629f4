use Rattle.std.proofs.Common.{rules, ◌∷◌, [], append-nil, subst}
use Rattle.cadence_cli.proofs.Reading.{read_whole}
use Rattle.cadence_send.specs.Sent.{TakesTexts, texts_of_input}
use Rattle.cadence_send.proofs.Feeding.{consumes_more, consumes_none, fed_flushed, fed_more, fed_none, fed_some, fed_then_some, fed_whole}
use Rattle.cadence_send.proofs.Feeding.{first_none, first_taken, of_known, on_err}
use Rattle.cadence_send.proofs.engine.Sending.take_input.Goals as goal

pub loop-init : goal.loop-init
loop-init g c =
    rw c.new.ensures.items (
      [],
      consumes_none (g.I.Read.remaining c.args.input.now),
      fed_none g.L.LineTaker.takes g.met.L.LineTaker.takes_none g.met.L.LineTaker.takes_more
          c.args.self.now.defaults.now c.args.lines.now,
    )

pub returns-in-Ok-eq0-clause-all : goal.returns-in-Ok-eq0-clause-all
returns-in-Ok-eq0-clause-all g c =
    let takes = g.L.LineTaker.takes in
    let none = g.met.L.LineTaker.takes_none in
    let more = g.met.L.LineTaker.takes_more in
    let d = c.args.self.now.defaults.now in
    let (got, consumed, fed) = c.loop.invariant in
    of_known (g.I.Read.remaining c.args.input.now) got (λ text. TakesTexts d takes c.args.lines.now c.take_text_end.new.lines (texts_of_input text))
    (read_whole _ _ _ _ _ c.in-Ok-eq0.field-0 c.in-Ok-eq0.field-0-test (search rules) consumed c.in-Ok-eq0.ensures.bytes)
    (fed_whole takes none more d c.args.lines.now c.loop.lines c.take_text_end.new.lines got c.loop.buffers.waiting.items fed
    (subst (λ t. TakesTexts d takes c.loop.lines c.take_text_end.new.lines (t ∷ [])) (append-nil c.loop.buffers.waiting.items)
    c.in_ok-unread-in-Ok-eq0.ensures.taken))

pub loop-preserved : goal.loop-preserved
loop-preserved g c =
    let takes = g.L.LineTaker.takes in
    let none = g.met.L.LineTaker.takes_none in
    let more = g.met.L.LineTaker.takes_more in
    let d = c.args.self.now.defaults.now in
    let (got, consumed, fed) = c.loop.invariant in (
      _,
      consumes_more _ _ _ got _ consumed c.in-Ok.ensures.bytes.0,
      fed_flushed takes none more d c.args.lines.now c.feed.new.lines c.keep_pace.new.lines _ _
          (fed_more takes none more d c.args.lines.now c.loop.lines c.feed.new.lines got _ c.loop.buffers.waiting.items _ fed
          c.in_ok-feed-in-Ok.ensures.all) c.keep_pace.ensures,
    )

pub returns-in_err-clone-clause-first : goal.returns-in_err-clone-clause-first
returns-in_err-clone-clause-first g c =
    on_err c.from_residual.result
    (first_none g.L.LineTaker.takes g.met.L.LineTaker.takes_none g.met.L.LineTaker.takes_more c.args.self.now.defaults.now c.args.lines.now (g.I.Read.remaining c.args.input.now))

pub returns-in_err-clone-2-clause-first : goal.returns-in_err-clone-2-clause-first
returns-in_err-clone-2-clause-first g c =
    on_err c.from_residual-in_err-clone-2.result
    (first_none g.L.LineTaker.takes g.met.L.LineTaker.takes_none g.met.L.LineTaker.takes_more c.args.self.now.defaults.now c.args.lines.now (g.I.Read.remaining c.args.input.now))

pub returns-in_err-unread-in-Ok-eq0-clause-first : goal.returns-in_err-unread-in-Ok-eq0-clause-first
returns-in_err-unread-in-Ok-eq0-clause-first g c =
    let takes = g.L.LineTaker.takes in
    let none = g.met.L.LineTaker.takes_none in
    let more = g.met.L.LineTaker.takes_more in
    let d = c.args.self.now.defaults.now in
    let (got, consumed, fed) = c.loop.invariant in
    on_err c.from_residual-in_err-unread-in-Ok-eq0.result
    (first_taken takes none more d c.args.lines.now c.take_text_end.new.lines _ _ got consumed
    (fed_some takes none more d c.args.lines.now c.loop.lines c.take_text_end.new.lines got c.loop.buffers.waiting.items fed
    c.in_err-unread-in-Ok-eq0.ensures.kept))

pub returns-in_err-feed-in-Ok-clause-first : goal.returns-in_err-feed-in-Ok-clause-first
returns-in_err-feed-in-Ok-clause-first g c =
    let takes = g.L.LineTaker.takes in
    let none = g.met.L.LineTaker.takes_none in
    let more = g.met.L.LineTaker.takes_more in
    let d = c.args.self.now.defaults.now in
    let (got, consumed, fed) = c.loop.invariant in
    on_err c.from_residual-in_err-feed-in-Ok.result
    (first_taken takes none more d c.args.lines.now c.feed.new.lines _ _ _ (consumes_more _ _ _ got _ consumed c.in-Ok.ensures.bytes.0)
    (fed_then_some takes none more d c.args.lines.now c.loop.lines c.feed.new.lines got _ c.loop.buffers.waiting.items fed
    c.in_err-feed-in-Ok.ensures.some))

pub returns-in-Err-clause-first : goal.returns-in-Err-clause-first
returns-in-Err-clause-first g c =
    let takes = g.L.LineTaker.takes in
    let none = g.met.L.LineTaker.takes_none in
    let more = g.met.L.LineTaker.takes_more in
    let d = c.args.self.now.defaults.now in
    let (got, consumed, fed) = c.loop.invariant in
    first_taken takes none more d c.args.lines.now c.loop.lines _ _ got consumed
    (fed_some takes none more d c.args.lines.now c.loop.lines c.loop.lines got c.loop.buffers.waiting.items fed (none c.loop.lines))

pub returns-in_err-keep_pace-clause-first : goal.returns-in_err-keep_pace-clause-first
returns-in_err-keep_pace-clause-first g c =
    let takes = g.L.LineTaker.takes in
    let none = g.met.L.LineTaker.takes_none in
    let more = g.met.L.LineTaker.takes_more in
    let d = c.args.self.now.defaults.now in
    let (got, consumed, fed) = c.loop.invariant in
    on_err c.from_residual-in_err-keep_pace.result
    (first_taken takes none more d c.args.lines.now c.keep_pace.new.lines _ _ _ (consumes_more _ _ _ got _ consumed c.in-Ok.ensures.bytes.0)
    (fed_some takes none more d c.args.lines.now c.feed.new.lines c.keep_pace.new.lines _ _
    (fed_more takes none more d c.args.lines.now c.loop.lines c.feed.new.lines got _ c.loop.buffers.waiting.items _ fed c.in_ok-feed-in-Ok.ensures.all)
    c.keep_pace.ensures))

pub returns-clause-first : goal.returns-clause-first
returns-clause-first g c =
    let takes = g.L.LineTaker.takes in
    let none = g.met.L.LineTaker.takes_none in
    let more = g.met.L.LineTaker.takes_more in
    let d = c.args.self.now.defaults.now in
    let (got, consumed, fed) = c.loop.invariant in
    first_taken takes none more d c.args.lines.now c.loop.lines _ _ got consumed
    (fed_some takes none more d c.args.lines.now c.loop.lines c.loop.lines got c.loop.buffers.waiting.items fed (none c.loop.lines))
