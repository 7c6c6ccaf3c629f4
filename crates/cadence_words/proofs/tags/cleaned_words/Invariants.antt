use Rattle.std.proofs.Common.{◌≡◌, map, take, true}
use Rattle.std.specs.Prelude.{string_bytes}
use Rattle.cadence_text.specs.Cleaned.{cleaned_text}
use Rattle.cadence_words.proofs.tags.cleaned_words.Given as goal

-- The first words were copied.
abbrev pub invariant-loop-word : goal.invariant-loop-word
invariant-loop-word g l = map string_bytes l.made.items ≡ map (cleaned_text true) (take l.word-index (map (λ w. w.now) l.words))
