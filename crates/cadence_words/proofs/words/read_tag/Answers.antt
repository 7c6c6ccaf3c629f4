use Rattle.std.proofs.Common.{rules}
use Rattle.cadence_words.proofs.WordByWord.{tag_keyed, tag_unkeyed}
use Rattle.cadence_words.proofs.words.read_tag.Goals as goal

pub returns-then-not-is_free : goal.returns-then-not-is_free
returns-then-not-is_free c tag h =
    let free = tag_unkeyed tag c.args.word.now c.in_default.ensures.none h in
    absurd (search (rules, free))

pub returns-then-not-is_free-2 : goal.returns-then-not-is_free-2
returns-then-not-is_free-2 c tag h =
    let (key, text) = tag_keyed tag c.args.word.now c.in-Some.key.now c.in-Some.text.now c.in-Some.ensures.front c.in-Some.ensures.whole h in
    absurd (search (rules, key))

pub returns-then-not-is_free_after_key : goal.returns-then-not-is_free_after_key
returns-then-not-is_free_after_key c tag h =
    let (key, text) = tag_keyed tag c.args.word.now c.in-Some.key.now c.in-Some.text.now c.in-Some.ensures.front c.in-Some.ensures.whole h in
    absurd (search (rules, text))
