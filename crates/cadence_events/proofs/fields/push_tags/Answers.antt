use Rattle.std.proofs.Common.{◌≡◌, ◌∙◌, ◌++◌, ◌∷◌, List, ap, codes, map, rules, sym}
use Rattle.std.proofs.lemmas.List.{take_all}
use Rattle.std.specs.List.{flat_map}
use Rattle.cadence_text.specs.Cleaned.{tag_as}
use Rattle.cadence_text.specs.Draft.{has_text, lead}
use Rattle.cadence_text.specs.Line.{tag_text}
use Rattle.cadence_text.specs.Record.{tag_of}
use Rattle.cadence_text.specs.declared.line.tag.Tag.{Tag}
use Rattle.cadence_events.specs.Fields.{tags_after}
use Rattle.cadence_events.proofs.Defaults.{joined_after}
use Rattle.cadence_events.proofs.fields.push_tags.Goals as goal

pub returns : goal.returns
returns g c = λ rest.
    let ends = g.S.ByteWriter.ends_as in
    let defaults = c.args.defaults.now in
    let kept = tag_as c.args.is_cleaned in
    let first = tag_text (kept (tag_of c.in-Some.first.now)) in
    let texts = λ (tags : List Tag). flat_map (λ tag. codes "," ++ tag_text tag) (map kept (map tag_of tags)) in
    let others = texts c.in-Some.others.now in
    let all : c.args.tags.now ≡ c.in-Some.first.now ∷ c.in-Some.others.now = search rules in
    c.loop-tag.invariant rest
    ∙ ap (λ tags. ends c.push_tag.new.line (texts tags ++ rest)) (take_all c.loop-tag.tag-index c.in-Some.others.now c.loop-tag-test.false)
    ∙ c.push_tag.ensures (others ++ rest)
    ∙ c.take_piece.ensures.taken ((c.lead_after.result.now ++ first) ++ (others ++ rest))
    ∙ ap (ends c.args.line.now) (joined_after defaults (lead (has_text defaults)) c.lead_after.result.now first others rest c.lead_after.ensures
    ∙ sym (ap (λ tags. tags_after defaults (map kept (map tag_of tags)) ++ rest) all))
