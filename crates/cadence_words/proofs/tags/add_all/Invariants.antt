use Rattle.std.proofs.Common.{◌≡◌, ◌++◌, ℕ, List, length}
use denote.Shadow.{shadow}
use denote.Text.{Utf8}
use Rattle.std.specs.List.{AllZip}
use Rattle.cadence_text.specs.Metric.{Tag}
use Rattle.cadence_words.specs.Asked.{IsTagWord, words_of}
use Rattle.cadence_words.proofs.WordByWord.{Tagged}
use Rattle.cadence_words.proofs.tags.add_all.Given as goal

abbrev pub decreases-loop-word : goal.decreases-loop-word
decreases-loop-word g l = length (words_of l.left)

abbrev pub invariant-loop-word : goal.invariant-loop-word
invariant-loop-word g l =
    shadow (Utf8 l.left)
    × ((front : List (List ℕ)) × (tags : List Tag) × (words_of l.fn.text ≡ front ++ words_of l.left) × AllZip IsTagWord front tags
    × Tagged l.initial.draft l.draft tags)
