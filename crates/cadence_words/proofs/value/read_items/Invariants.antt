use Rattle.std.proofs.Common.{map, take}
use Rattle.std.specs.List.{AllZip}
use Rattle.cadence_words.specs.Asked.{IsNumberWord}
use Rattle.cadence_words.proofs.value.read_items.Given as goal

abbrev pub invariant-loop-word : goal.invariant-loop-word
invariant-loop-word g l = AllZip (IsNumberWord l.kind) (take l.word-index (map (λ w. w.now) l.words)) l.numbers.items
