use Rattle.std.proofs.Common.{◌≡◌, ◌≢◌, arith, get_or, refl, rules}
use Rattle.cadence_events.specs.Escapes.{escaped}
use Rattle.cadence_events.proofs.Escaping.{newline_counted, plain_counted}
use Rattle.cadence_events.proofs.escapes.escaped_len.Goals.{then-byte-eq10, else-byte-eq10}
use Rattle.cadence_events.proofs.escapes.escaped_len.Goals as goal

pub loop-byte-init : goal.loop-byte-init
unfolding escaped
loop-byte-init c = record { fewer = omega arith; counted = refl }

pub loop-byte-preserved : goal.loop-byte-preserved
loop-byte-preserved c =
    let items = c.as_bytes-byte-items.result.now in
    let i = c.loop-byte.byte-index in
    let before = c.loop-byte.invariant in
    elim c.if-byte-eq10.branch [
      | then-byte-eq10 w ↦
          let newline : get_or items i 0 ≡ 10 = search rules in
          record {
            fewer = omega (arith, before.fewer, w.newlines-is);
            counted = omega (arith, w.newlines-is, newline_counted items i c.loop-byte.newlines c.loop-byte-test.true newline before.counted);
          }
      | else-byte-eq10 w ↦
          let plain : get_or items i 0 ≢ 10 = search rules in
          record {
            fewer = omega (arith, before.fewer, w.newlines-is);
            counted = omega (arith, w.newlines-is, plain_counted items i c.loop-byte.newlines c.loop-byte-test.true plain before.counted);
          }
    ]
