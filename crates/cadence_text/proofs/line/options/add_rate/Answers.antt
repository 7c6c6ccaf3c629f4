use Rattle.std.proofs.Common.{ℕ, ◌≡◌, ◌+◌, ◌<◌, ◌%◌, ◌^◌, ◌∙◌, [], ◌++◌, ap, arith, length, replicate, rules}
use Rattle.cadence_text.specs.Line.{rate_field}
use Rattle.cadence_text.proofs.writing.LineLength.{rate_short}
use Rattle.cadence_text.proofs.writing.WriterEnds.{counted_written}
use Rattle.cadence_text.proofs.line.options.add_rate.Goals as goal

pub returns : goal.returns
returns g c =
    let old = c.args.line.now.bytes.items in
    let rate = rate_field c.args.rate.now in
    let fits : c.length.result < 2 ^ 128 = omega (arith, c.length.type_inv) in
    let same : c.in-Ok.length ≡ c.length.result = search rules in
    let end : c.reserve.new.self.end ≡ length old + c.in-Ok.length = search rules in
    let counted : replicate {A = ℕ} ((c.length.result + 0) % 2 ^ 128) 0 ≡ replicate ((0 + length (rate ++ [])) % 2 ^ 128) 0 =
    ap (λ n. replicate ((n + 0) % 2 ^ 128) 0) c.length.ensures ∙ c.push_rate.ensures.taken []
    ∙ ap (λ n. replicate ((n + length (rate ++ [])) % 2 ^ 128) 0) c.new-counter.ensures in
    counted_written c.length.result c.in-Ok.length c.reserve.new.self.end c.push_rate-2.new.line.end old
    c.reserve.new.self.bytes.items c.push_rate-2.new.line.bytes.items rate fits
    (omega (arith, rate_short c.args.rate.now c.push_rate.ensures.sized))
    counted same end c.requires c.reserve.ensures.text (c.push_rate-2.ensures.taken [])
