use Rattle.std.proofs.Common.{map, take}
use Rattle.std.specs.List.{AllZip}
use Rattle.cadence_text.specs.Record.{tag_of}
use Rattle.cadence_words.specs.Asked.{IsTagWord}
use Rattle.cadence_words.proofs.events.read_tags.Given as goal

abbrev pub invariant-loop-word : goal.invariant-loop-word
invariant-loop-word g l = AllZip IsTagWord (take l.word-index (map (λ w. w.now) l.words)) (map tag_of l.tags.items)
