use Rattle.std.proofs.Common.{rules, ◌≡◌, ◌++◌, ◌∷◌, ◌∙◌, [], ap, Err, subst, sym, append-nil, append_assoc, refl}
use Rattle.std.specs.List.{AllZip}
use Rattle.std.proofs.lemmas.Slice.Zip.{all_zipped_more}
use Rattle.cadence_words.specs.Asked.{IsTagWord, words_of}
use Rattle.cadence_words.proofs.WordByWord.{tag_of_word, tagged_more, tagged_none, tags_fail}
use Rattle.cadence_words.proofs.tags.add_all.Goals as goal

pub returns-in_err-add_tag : goal.returns-in_err-add_tag
returns-in_err-add_tag g c =
    let (front, tags, cut, each, is) = c.loop-word.invariant.1 in
    let was : c.from_residual.result ≡ Err c.in_err-add_tag.field-0.0 = search rules in
    tags_fail (words_of c.args.text.now) c.in-Some.word.now c.args.draft.now _ _ _ was
    (λ ts h. tag_of_word front (words_of c.in-Some.others.now) c.in-Some.word.now ts (subst (λ ws. AllZip IsTagWord ws ts) (cut
    ∙ ap (λ ws. front ++ ws) c.in-Some.ensures.some) h))
    c.in_err-add_tag.ensures

pub loop-word-init : goal.loop-word-init
loop-word-init g c = (search rules, ([], [], refl, tt, tagged_none c.args.draft.now))

pub returns : goal.returns
returns g c =
    let (front, tags, cut, each, is) = c.loop-word.invariant.1 in
    (tags, subst (λ ws. AllZip IsTagWord ws tags) (sym (cut ∙ ap (λ ws. front ++ ws) c.in_default.ensures.none ∙ append-nil front)) each, is)

pub loop-word-preserved : goal.loop-word-preserved
loop-word-preserved g c =
    let (front, tags, cut, each, is) = c.loop-word.invariant.1 in
    let (tag, one, added) = c.in_ok-add_tag.ensures in (
      search rules,
      (
        front ++ c.in-Some.word.now ∷ [],
        tags ++ tag ∷ [],
        cut ∙ ap (λ ws. front ++ ws) c.in-Some.ensures.some ∙ sym (append_assoc front (c.in-Some.word.now ∷ []) (words_of c.in-Some.others.now)),
        all_zipped_more IsTagWord front tags c.in-Some.word.now tag each one,
        tagged_more _ _ _ tags tag is added,
      ),
    )
