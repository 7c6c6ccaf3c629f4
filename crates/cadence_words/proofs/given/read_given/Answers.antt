use Rattle.std.proofs.Common.{rules, ◌≡◌, false}
use Rattle.cadence_words.specs.Asked.{IsSaidOf, IsValueOf, is_level_word}
use Rattle.cadence_words.proofs.WordByWord.{fails_on, value_said}
use Rattle.cadence_words.proofs.given.read_given.Goals as goal

pub returns-in-Err : goal.returns-in-Err
returns-in-Err g c =
    let kind = c.args.kind in
    let word = c.args.word.now in
    let plain : is_level_word c.args.kind c.args.word.now ≡ false = search rules in
    fails_on (λ h. (h.0 ≡ kind) × IsSaidOf kind word h.1) (λ h. (h.0 ≡ kind) × IsValueOf kind word h.1) c.in-Err.error
    (value_said kind word plain) c.in-Err.ensures
