use Rattle.cadence_words.specs.Asked.{IsNumberWord}
use Rattle.cadence_words.proofs.WordByWord.{word_at, word_more}
use Rattle.cadence_words.proofs.value.read_items.Goals as goal

pub returns-in_default : goal.returns-in_default
returns-in_default g c ns h =
    let (n, one) = word_at (IsNumberWord c.args.kind) c.args.words.now ns c.loop-word.word-index _ c.loop-word-test.true h in
    c.in_default.ensures n one

pub loop-word-preserved : goal.loop-word-preserved
loop-word-preserved g c =
    rw c.in_ok-push.ensures.items (word_more (IsNumberWord c.args.kind) c.args.words.now c.loop-word.numbers.items c.loop-word.word-index _
    c.in-Some.number c.loop-word-test.true c.loop-word.invariant c.in-Some.ensures)
