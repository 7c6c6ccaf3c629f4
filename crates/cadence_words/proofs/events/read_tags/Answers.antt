use Rattle.std.proofs.Common.{◌≡◌, ◌+◌, ◌++◌, ◌∷◌, ◌∙◌, [], ap, map, subst, sym, take}
use Rattle.std.specs.List.{AllZip}
use Rattle.std.proofs.lemmas.List.{map-append}
use Rattle.cadence_text.specs.Record.{tag_of}
use Rattle.cadence_words.specs.Asked.{IsTagWord}
use Rattle.cadence_words.proofs.WordByWord.{texts, word_at, word_more}
use Rattle.cadence_words.proofs.events.read_tags.Goals as goal

pub returns-in_default : goal.returns-in_default
returns-in_default g c ts h =
    let (t, one) = word_at IsTagWord c.args.words.now ts c.loop-word.word-index _ c.loop-word-test.true h in
    c.in_default.ensures t one

pub loop-word-preserved : goal.loop-word-preserved
loop-word-preserved g c =
    let made = c.loop-word.tags.items in
    let tag = c.in-Some.tag in
    let is : map tag_of c.push.new.self.items ≡ map tag_of made ++ tag_of tag ∷ [] =
    ap (map tag_of) c.in_ok-push.ensures.items ∙ map-append tag_of made (tag ∷ []) in
    subst (λ ts. AllZip IsTagWord (take (c.loop-word.word-index + 1) (texts c.args.words.now)) ts) (sym is)
    (word_more IsTagWord c.args.words.now (map tag_of made) c.loop-word.word-index _ (tag_of tag) c.loop-word-test.true c.loop-word.invariant c.in-Some.ensures)
