use Rattle.std.proofs.Common.{List, map, take}
use Rattle.std.specs.List.{AllZip}
use Rattle.cadence_text.specs.Metric.{Tag}
use Rattle.cadence_words.specs.Asked.{IsTagWord}
use Rattle.cadence_words.proofs.WordByWord.{Tagged}
use Rattle.cadence_words.proofs.tags.add_tags.Given as goal

abbrev pub invariant-loop-word : goal.invariant-loop-word
invariant-loop-word g l =
    (tags : List Tag) × AllZip IsTagWord (take l.word-index (map (λ w. w.now) l.words)) tags × Tagged l.initial.draft l.draft tags
