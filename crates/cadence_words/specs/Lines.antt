-- The lines of the metrics that words ask for.
use Rattle.std.specs.Prelude.{◌≡◌, ◌++◌, ◌∷◌, Bool, true, false, List, [], map, ℕ}
use Rattle.std.specs.List.{AllZip}
use Rattle.std.specs.Str.{IsUtf8}
use Rattle.cadence_settings.specs.Call.{metric_for, plain_call}
use Rattle.cadence_text.specs.Cleaned.{cleaned_text, text_as}
use Rattle.cadence_text.specs.Line.{line_with}
use Rattle.cadence_text.specs.Metric.{Metric, Tag}
use Rattle.cadence_text.specs.declared.line.MetricType.{MetricType}
use Rattle.cadence_words.specs.Asked.{AreHead, IsTagWord, Said, leveled, valued, words_of}
use Rattle.cadence_words.specs.Levels.{level_text}
use Rattle.cadence_words.specs.declared.defaults.Defaults.{Defaults}

-- the metric of this kind and this name, without its value, with the default tags before these, and with the rate and the
-- time of the command line
abbrev pub asked_metric : {Z : Type 0} → Defaults Z → MetricType → List ℕ → List Tag → Metric
asked_metric d kind name tags =
    let m = metric_for d.settings (plain_call kind name []) in
    record m { tags = m.tags ++ tags; rate = d.rate; time = d.time }

-- a metric, with the rate and the time of the command line
abbrev pub with_rate_and_time : {Z : Type 0} → Defaults Z → Metric → Metric
with_rate_and_time d m = record m { rate = d.rate; time = d.time }

-- The words are tags, and this is the text that `text` gives for the metric of this kind and name with these tags.
abbrev pub IsTextOf : {Z : Type 0} → Defaults Z → (Metric → List ℕ) → MetricType → List ℕ → List (List ℕ) → List ℕ → Type 0
IsTextOf d text kind name words line = (tags : List Tag) × AllZip IsTagWord words tags × (line ≡ text (asked_metric d kind name tags))

-- the text that sends what a word says: the line of the value, or the text that sets the gauge
abbrev pub said_text : Said → Metric → List ℕ
said_text (valued value) m = line_with value m
said_text (leveled n) m = level_text n m

-- The words, as they are given, ask for a metric, and this is its line, or they set a gauge below 0, and these are the
-- two lines for it.
abbrev pub IsLineOfGiven : {Z : Type 0} → Defaults Z → List (List ℕ) → List ℕ → Type 0
IsLineOfGiven d [] line = ⊥
IsLineOfGiven d (kind ∷ []) line = ⊥
IsLineOfGiven d (kind ∷ name ∷ []) line = ⊥
IsLineOfGiven d (kind ∷ name ∷ value ∷ words) line =
    (h : MetricType × Said) × AreHead kind name value h.0 h.1 × IsTextOf d (said_text h.1) h.0 name words line

-- the words of tags as they are, or the cleaned ones (`true`), in which colons stay, since the first one ends a key
abbrev pub tag_words_as : Bool → List (List ℕ) → List (List ℕ)
tag_words_as true words = map (cleaned_text true) words
tag_words_as false words = words

-- the words KIND NAME VALUE and any tags as they are, or with a cleaned name and cleaned tags (`true`)
abbrev pub words_as : Bool → List (List ℕ) → List (List ℕ)
words_as is_cleaned [] = []
words_as is_cleaned (kind ∷ []) = kind ∷ []
words_as is_cleaned (kind ∷ name ∷ []) = kind ∷ name ∷ []
words_as is_cleaned (kind ∷ name ∷ value ∷ tags) = kind ∷ text_as is_cleaned name ∷ value ∷ tag_words_as is_cleaned tags

-- The words ask for a metric, and this is its line. If the settings clean texts, the name and the tags are cleaned first.
abbrev pub IsLineOfWords : {Z : Type 0} → Defaults Z → List (List ℕ) → List ℕ → Type 0
IsLineOfWords d words line = IsLineOfGiven d (words_as d.settings.cleaned words) line

-- The text is in UTF-8, and this is the line of the metric that its words ask for.
abbrev pub IsLineOfText : {Z : Type 0} → Defaults Z → List ℕ → List ℕ → Type 0
IsLineOfText d text line = IsUtf8 text × IsLineOfWords d (words_of text) line
