use Rattle.std.proofs.Common.{◌≡◌, ◌++◌, map, length, true}
use Rattle.std.specs.Prelude.{string_bytes}
use denote.Shadow.{shadow}
use denote.Text.{Utf8}
use Rattle.cadence_text.specs.Cleaned.{cleaned_text}
use Rattle.cadence_words.specs.Asked.{words_of}
use Rattle.cadence_words.proofs.tags.cleaned_words_of.Given as goal

abbrev pub decreases-loop-word : goal.decreases-loop-word
decreases-loop-word g l = length (words_of l.left)

-- All words but the left ones were copied.
abbrev pub invariant-loop-word : goal.invariant-loop-word
invariant-loop-word g l =
    shadow (Utf8 l.left)
    × (map string_bytes l.made.items ++ map (cleaned_text true) (words_of l.left) ≡ map (cleaned_text true) (words_of l.fn.text))
