-- The words of a line's tags.
use Rattle.std.specs.Prelude.{ℕ, List, map}
use Rattle.cadence_words.specs.Asked.{words_of}
use Rattle.cadence_words.specs.declared.tags.Tags.{Tags}
use Rattle.cadence_words.specs.declared.tags.Tags.TheVariants.{Words, Text}

-- the words of the tags: those of a list, or those between the spaces of a text
abbrev pub tag_words : Tags → List (List ℕ)
tag_words (Words words) = map (λ w. w.now) words.now
tag_words (Text text) = words_of text.now
