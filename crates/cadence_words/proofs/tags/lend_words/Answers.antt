use Rattle.std.proofs.Common.{◌≡◌, ◌∙◌, ◌+◌, ◌++◌, ◌∷◌, [], ap, ap₂, map, sym, take}
use Rattle.std.specs.Prelude.{string_bytes}
use Rattle.std.proofs.lemmas.List.{map-append, take_more}
use Rattle.cadence_words.proofs.WordByWord.{texts}
use Rattle.cadence_words.proofs.tags.lend_words.Goals as goal

pub loop-word-preserved : goal.loop-word-preserved
loop-word-preserved g c =
    let words = c.args.words.now in
    let i = c.loop-word.word-index in
    let one = c.word-item.result in
    let lent = c.loop-word.lent.items in
    let more : take (i + 1) words ≡ take i words ++ one ∷ [] =
    take_more words i one c.loop-word-test.true ∙ ap (λ o. take i words ++ o ∷ []) (sym c.word-item.is) in
    ap texts c.in_ok-push.ensures.items ∙ map-append (λ w. w.now) lent (c.as_str.result ∷ [])
    ∙ ap₂ (λ a b. a ++ b ∷ []) c.loop-word.invariant c.as_str.ensures.value
    ∙ sym (ap (map string_bytes) more ∙ map-append string_bytes (take i words) (one ∷ []))
