use Rattle.std.proofs.Common.{rules, ◌∙◌, ◌++◌, ap, map, sym, true, append-nil}
use Rattle.std.specs.Prelude.{string_bytes}
use Rattle.cadence_text.specs.Cleaned.{cleaned_text}
use Rattle.cadence_words.specs.Asked.{words_of}
use Rattle.cadence_words.proofs.CleanedWords.{copied_next}
use Rattle.cadence_words.proofs.tags.cleaned_words_of.Goals as goal

pub loop-word-preserved : goal.loop-word-preserved
loop-word-preserved g c = (
  search rules,
  copied_next (cleaned_text true) string_bytes (words_of c.args.text.now) (words_of c.loop-word.left.now) (words_of c.in-Some.others.now)
      c.loop-word.made.items _ _ c.in-Some.word.now c.in-Some.ensures.some c.in_ok-push.ensures.items c.in_ok-copy.ensures
      c.loop-word.invariant.1,
)

pub returns : goal.returns
returns g c =
    sym (append-nil (map string_bytes c.loop-word.made.items))
    ∙ ap (λ ws. map string_bytes c.loop-word.made.items ++ map (cleaned_text true) ws) (sym c.in_default.ensures.none)
    ∙ c.loop-word.invariant.1
