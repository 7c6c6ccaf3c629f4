use Rattle.std.proofs.Common.{◌≡◌, ◌∙◌, rules}
use Rattle.cadence_text.specs.Cleaned.{text_as}
use Rattle.cadence_host.specs.Texts.{IsLineWith}
use Rattle.cadence_host.proofs.Lines.{is_line, with_line}
use Rattle.cadence_host.proofs.client.Client.keep.Goals as goal

pub line_in_buffer-requires-clause-kind : goal.line_in_buffer-requires-clause-kind
line_in_buffer-requires-clause-kind g c = c.requires.kind c.in-Ok.call.kind c.in-Ok.ensures.kind

pub returns-clause-kept : goal.returns-clause-kept
returns-clause-kept g c =
    let line = c.in-Ok-line_in_buffer.line.items in
    let value = g.V.LineValue.text c.args.value in
    let key : c.as_str.result.now ≡ text_as c.in-Ok.call.is_cleaned c.args.key.now = search rules in
    let is : IsLineWith c.args.settings.now c.args.kind c.args.key.now value c.args.options.now line =
    record {
      cardinalities = c.in-Ok.ensures.cardinalities;
      meant = λ s texts. is_line s c.args.kind c.in-Ok.call.kind c.args.key.now c.as_str.result.now value c.args.options.now c.in-Ok.call.rate c.in-Ok.call.is_cleaned line
          key (c.in-Ok.ensures.cleaned ∙ texts.cleaned) c.in-Ok.ensures.kind c.in-Ok.ensures.rate (c.in-Ok-line_in_buffer.ensures s (c.in-Ok.ensures.settings s texts));
    } in
    with_line c.pack-outcome.result line _ _ is (search rules)

pub returns-clause-full : goal.returns-clause-full
returns-clause-full g c full =
    let line = c.in-Ok-line_in_buffer.line.items in
    let value = g.V.LineValue.text c.args.value in
    let key : c.as_str.result.now ≡ text_as c.in-Ok.call.is_cleaned c.args.key.now = search rules in
    let is : IsLineWith c.args.settings.now c.args.kind c.args.key.now value c.args.options.now line =
    record {
      cardinalities = c.in-Ok.ensures.cardinalities;
      meant = λ s texts. is_line s c.args.kind c.in-Ok.call.kind c.args.key.now c.as_str.result.now value c.args.options.now c.in-Ok.call.rate c.in-Ok.call.is_cleaned line
          key (c.in-Ok.ensures.cleaned ∙ texts.cleaned) c.in-Ok.ensures.kind c.in-Ok.ensures.rate (c.in-Ok-line_in_buffer.ensures s (c.in-Ok.ensures.settings s texts));
    } in
    (line, is, search rules)
