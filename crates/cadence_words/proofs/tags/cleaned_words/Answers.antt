use Rattle.std.proofs.Common.{true}
use Rattle.std.specs.Prelude.{string_bytes}
use Rattle.cadence_text.specs.Cleaned.{cleaned_text}
use Rattle.cadence_words.proofs.CleanedWords.{copied_more}
use Rattle.cadence_words.proofs.tags.cleaned_words.Goals as goal

pub loop-word-preserved : goal.loop-word-preserved
loop-word-preserved g c =
    copied_more (cleaned_text true) string_bytes c.args.words.now c.loop-word.made.items _ _ c.loop-word.word-index _
    c.loop-word-test.true c.in_ok-push.ensures.items c.in_ok-copy.ensures c.loop-word.invariant
