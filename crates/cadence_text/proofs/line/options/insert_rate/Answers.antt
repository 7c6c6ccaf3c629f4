use Rattle.std.proofs.Common.{◌≡◌, ◌-◌, ◌∙◌, ◌++◌, ap, ap₂, arith, length, length-append, sym, subst}
use Rattle.std.specs.Str.{IsUtf8}
use Rattle.std.proofs.lemmas.Str.{IsUtf8-had}
use Rattle.cadence_text.specs.Line.{rate_field}
use Rattle.cadence_text.specs.PieceWriters.{rotated_text}
use Rattle.cadence_text.proofs.writing.DraftText.{rate_between, rate_utf8}
use Rattle.cadence_text.proofs.line.options.insert_rate.Goals as goal

pub turn-requires-clause-within : goal.turn-requires-clause-within
turn-requires-clause-within g c =
    let old = c.args.line.now.bytes.items in
    let rate = rate_field c.args.rate.now in
    let tags : c.len.result ≡ length old = c.len.ensures in
    omega (arith, tags, ap length c.in_ok-add_rate.ensures, length-append old rate, c.requires.1)

pub turn-requires-clause-utf8 : goal.turn-requires-clause-utf8
turn-requires-clause-utf8 g c =
    let old = c.args.line.now.bytes.items in
    let rate = rate_field c.args.rate.now in
    let tags : c.len.result ≡ length old = c.len.ensures in
    let here : IsUtf8 (old ++ rate) = subst IsUtf8 c.in_ok-add_rate.ensures (IsUtf8-had _ c.add_rate.new.line.utf8) in
    subst IsUtf8 (sym (ap₂ (λ n l. rotated_text c.args.head (n - c.args.head) l) tags c.in_ok-add_rate.ensures))
    (rate_utf8 c.args.head old rate c.requires here)

pub returns : goal.returns
returns g c =
    let old = c.args.line.now.bytes.items in
    let rate = rate_field c.args.rate.now in
    let tags : c.len.result ≡ length old = c.len.ensures in
    c.turn.ensures.bytes ∙ ap₂ (λ n l. rotated_text c.args.head (n - c.args.head) l) tags c.in_ok-add_rate.ensures
    ∙ rate_between c.args.head old rate c.requires
