use Rattle.std.proofs.Common.{rules, ◌<◌, length}
use Rattle.cadence_words.proofs.WordByWord.{later_mark}
use Rattle.cadence_words.proofs.given.read_level.Goals as goal

pub returns-then-not-is_empty : goal.returns-then-not-is_empty
returns-then-not-is_empty c n h =
    let some : 0 < length c.in_ok-front.front.now = search rules in
    absurd (later_mark c.in_ok-front.front.now c.in_ok-front.number.now c.args.word.now c.in_ok-front.ensures.front some
    c.in_ok-front.ensures.whole n h)
