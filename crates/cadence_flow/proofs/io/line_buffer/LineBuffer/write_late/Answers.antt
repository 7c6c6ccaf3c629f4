use Rattle.std.proofs.Common.{◌≡◌, ◌<◌, ap, ◌∙◌, sym, subst, arith, rules, [], length, true}
use Rattle.std.specs.Option.{ok_or}
use Rattle.cadence_flow.specs.Frame.{Fits, is_oversize, size_of}
use Rattle.cadence_flow.specs.HeldLines.{HeldText}
use Rattle.cadence_flow.specs.Packer.{packer_state}
use Rattle.cadence_flow.specs.Writer.{WriterKind, WritesPacket}
use Rattle.std.proofs.lemmas.Bool.{false≢true}
use Rattle.cadence_flow.proofs.LineAfterFlush.{Writes-alone}
use Rattle.cadence_flow.proofs.io.line_buffer.LineBuffer.write_late.Goals as goal

pub returns-clause-writes : goal.returns-clause-writes
returns-clause-writes g c =
    let kind = g.T.PacketWriter.kind in
    let history = g.T.PacketWriter.history in
    let was = c.args.self.now in
    let line = c.args.line.now in
    let held = c.self.inside.lines in
    let opened = c.self.view_is in
    let flushed = c.in_ok-flush.ensures.flushes in
    let writer = ap (λ p. p.writer) opened in
    let emptied : held.text ≡ [] = ap (λ p. p.held) opened ∙ flushed.flushes.empties in
    let same_kind : kind c.self.inside.inner ≡ kind was.writer = ap kind writer ∙ flushed.same_kind in
    let no_room : Fits held.format held.text line → ⊥ = λ fits. false≢true (sym c.if-hold.false ∙ c.hold.ensures.exact.1 fits) in
    let passes : was.format.capacity < size_of was.format line =
    omega (
      arith,
      no_room,
      ap length emptied,
      ap (λ p. p.format.capacity) opened,
      ap (λ p. length p.format.ending) opened,
      ap (λ f. f.capacity) flushed.same_format,
      ap (λ f. length f.ending) flushed.same_format,
    ) in
    let still_empty : c.hold.new.self.text ≡ [] = ap (λ (h : HeldText). h.text) (c.hold.ensures.unchanged c.if-hold.false) ∙ emptied in
    let over : is_oversize was.format line ≡ true = search rules in
    let mid = history c.self.inside.inner in
    let new = history c.write_packet_narrow.new.self in
    let answer = ok_or c.write_packet_narrow.result c.write_packet_narrow.new.fault in
    record {
      same_kind = search rules;
      same_format = search rules;
      only_held = search rules;
      writes =
          Writes-alone (kind was.writer) (packer_state history was) (packer_state history c.flush.new.self)
          (record { history = new; held = c.hold.new.self.text })
          was.format line c.in_ok-flush.field-0 still_empty flushed.flushes.empties answer flushed.flushes over passes
          (subst (λ w. WritesPacket (kind was.writer) (history w) new line answer) writer
          (subst (λ (k : WriterKind). WritesPacket k mid new line answer) same_kind c.write_packet_narrow.ensures.writes));
    }
