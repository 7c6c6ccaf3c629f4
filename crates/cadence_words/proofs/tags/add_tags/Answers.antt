use Rattle.std.proofs.Common.{rules, ◌≡◌, ◌++◌, ◌∷◌, [], Err}
use Rattle.cadence_words.specs.Asked.{IsTagWord}
use Rattle.cadence_words.proofs.WordByWord.{tagged_more, tags_fail, texts, word_at, word_more}
use Rattle.cadence_words.proofs.tags.add_tags.Goals as goal

pub returns-in_err-add_tag : goal.returns-in_err-add_tag
returns-in_err-add_tag g c =
    let is : c.from_residual.result ≡ Err c.in_err-add_tag.field-0.0 = search rules in
    tags_fail (texts c.args.words.now) _ c.args.draft.now _ _ _ is (λ tags h. word_at IsTagWord c.args.words.now tags c.loop-word.word-index
    _ c.loop-word-test.true h) c.in_err-add_tag.ensures

pub loop-word-preserved : goal.loop-word-preserved
loop-word-preserved g c =
    let (tags, each, is) = c.loop-word.invariant in
    let (tag, one, added) = c.in_ok-add_tag.ensures in (
      tags ++ tag ∷ [],
      word_more IsTagWord c.args.words.now tags c.loop-word.word-index _ tag c.loop-word-test.true each one,
      tagged_more _ _ _ tags tag is added,
    )
