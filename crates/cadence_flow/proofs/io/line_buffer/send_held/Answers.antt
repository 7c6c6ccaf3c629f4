use Rattle.std.proofs.Common.{◌<◌, ap, arith, drop, length, List, ℕ, subst, sym}
use Rattle.std.specs.Option.{ok_or}
use Rattle.cadence_flow.specs.HeldLines.{HeldText, with_text}
use Rattle.cadence_flow.specs.Packer.{Flushes, PackerState}
use Rattle.cadence_flow.proofs.FlushOutcome.{Flushes-sent}
use Rattle.cadence_flow.proofs.io.line_buffer.send_held.Goals as goal

pub returns-clause-flushes : goal.returns-clause-flushes
returns-clause-flushes g c =
    let s = c.send-sent.ensures in
    let kind = g.T.PacketWriter.kind in
    let history = g.T.PacketWriter.history in
    let writer = c.args.to.now in
    let text = c.args.lines.now.text in
    let offered = c.text.result.now in
    let old = history writer in
    let new = history c.send-sent.new.to in
    let n = c.send-sent.result.0 in
    let r = ok_or c.send-sent.result.1 c.send-sent.new.fault in
    let some : 0 < length offered = omega (arith, ap length c.text.ensures.text) in
    let sent = Flushes-sent (kind writer) old new offered n r some s.all s.left s.ok s.sent s.cause s.one_packet s.no_packet in
    let before : List ℕ → PackerState = λ l. record { history = old; held = l } in
    let now : List ℕ → PackerState = λ l. record { history = new; held = l } in
    let named = subst (λ (l : List ℕ). Flushes (kind writer) (before l) (now (drop n l)) r) {x = offered} {y = text} c.text.ensures.text sent in
    let rest = drop n text in
    let left = c.skip.new.self.text in
    subst (λ (l : List ℕ). Flushes (kind writer) (before text) (now l) r) {x = rest} {y = left} (sym {A = List ℕ} {a = left} {b = rest} (ap (λ (h : HeldText). h.text) {x = c.skip.new.self} {y = with_text c.args.lines.now rest} c.skip.ensures)) named
