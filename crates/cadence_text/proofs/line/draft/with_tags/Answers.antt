use Rattle.std.proofs.Common.{◌≡◌, ◌+◌, ◌≤◌, ◌<◌, [], ◌++◌, arith, length, refl}
use Rattle.std.specs.Option.{option_copied}
use Rattle.std.specs.Prelude.{None}
use Rattle.std.proofs.lemmas.Str.{IsUtf8-had}
use Rattle.cadence_text.proofs.writing.DraftText.{cut_new, cut_first, cut_last}
use Rattle.cadence_text.proofs.writing.WriterEnds.{filled_more}
use Rattle.cadence_text.specs.Metric.{no_enrichment}
use Rattle.cadence_text.proofs.line.draft.with_tags.Goals as goal

pub invariant_of-result : goal.invariant_of-result
invariant_of-result g c =
    let head = c.args.line.bytes.items in
    let tags = c.args.tags.now in
    let begun = c.args.line in
    let some : 0 < length head = omega (arith, c.requires.first, c.requires.some) in
    let room : length head + length tags ≤ begun.end = omega (arith, c.requires.first, c.requires.room) in
    let whole : c.take_piece.new.self.bytes.items ≡ head ++ tags =
    filled_more begun.end c.take_piece.new.self.end head head c.take_piece.new.self.bytes.items tags (omega (arith, some)) room refl
    (c.take_piece.ensures.taken []) in
    cut_new c.args.first head tags c.take_piece.new.self.bytes.items c.requires.first some (IsUtf8-had _ begun.utf8) c.take_piece.ensures.sized.1
    whole

pub returns : goal.returns
returns g c =
    let head = c.args.line.bytes.items in
    let tags = c.args.tags.now in
    let begun = c.args.line in
    let first : c.args.first ≡ length head = c.requires.first in
    let some : 0 < length head = omega (arith, c.requires.first, c.requires.some) in
    let room : length head + length tags ≤ begun.end = omega (arith, c.requires.first, c.requires.room) in
    let whole : c.take_piece.new.self.bytes.items ≡ head ++ tags =
    filled_more begun.end c.take_piece.new.self.end head head c.take_piece.new.self.bytes.items tags (omega (arith, some)) room refl
    (c.take_piece.ensures.taken []) in
    λ i. record {
      head = cut_first c.args.first head tags c.take_piece.new.self.bytes.items first whole i;
      tags = cut_last c.args.first head tags c.take_piece.new.self.bytes.items first whole i;
      rate = None;
      container = option_copied c.args.container;
      enrichment = no_enrichment;
      time = None;
    }
