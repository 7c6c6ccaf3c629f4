use Rattle.std.proofs.Common.{◌≡◌, ◌∙◌, ◌∷◌, [], ◌++◌, ap, ap₂, map, rules}
use Rattle.std.proofs.lemmas.List.{map-append, take_all}
use Rattle.cadence_text.specs.Record.{tag_of}
use Rattle.cadence_host.specs.Calls.{c_tag}
use Rattle.cadence_host.proofs.Lines.{tags_more}
use Rattle.cadence_c.proofs.events.tags_of.Goals as goal

pub loop-tag-preserved : goal.loop-tag-preserved
loop-tag-preserved c =
    let tags = c.args.tags.now in
    let i = c.loop-tag.tag-index in
    let made = c.loop-tag.made.items in
    let tag = c.in-Some.tag in
    let items : c.push.new.self.items ≡ made ++ tag ∷ [] = search rules in
    ap (map tag_of) items ∙ map-append tag_of made (tag ∷ []) ∙ ap₂ (λ ts t. ts ++ t ∷ []) c.loop-tag.invariant c.in-Some.ensures.tag
    ∙ tags_more c_tag tags i _ c.loop-tag-test.true

pub returns-clause-tags : goal.returns-clause-tags
returns-clause-tags c =
    c.loop-tag.invariant ∙ ap (map c_tag) (take_all c.loop-tag.tag-index c.args.tags.now c.loop-tag-test.false)
