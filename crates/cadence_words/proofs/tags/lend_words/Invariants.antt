use Rattle.std.proofs.Common.{◌≡◌, map, take}
use Rattle.std.specs.Prelude.{string_bytes}
use Rattle.cadence_words.proofs.tags.lend_words.Given as goal

-- The first words were lent.
abbrev pub invariant-loop-word : goal.invariant-loop-word
invariant-loop-word g l = map (λ w. w.now) l.lent.items ≡ map string_bytes (take l.word-index l.words)
