-- The metrics that words ask for.
use Rattle.std.specs.Prelude.{◌≡◌, ◌<◌, ◌⊎◌, ◌==◌, ⊤, ℕ, Bool, true, false, List, [], ◌∷◌, codes, length, Result, Ok, Err}
use Rattle.std.specs.Int.{w64, FitsUnsigned, is_negative}
use Rattle.std.specs.Int.RustNames.{FitsSigned}
use Rattle.std.specs.List.{AllZip, filter, fold, slice_split}
use Rattle.cadence_text.specs.declared.line.MetricType.{MetricType}
use Rattle.cadence_text.specs.declared.line.MetricType.TheVariants.{Counter, Timer, Gauge, Meter, Histogram, Set, Distribution}
use Rattle.cadence_text.specs.Draft.{Draft, with_tag_text}
use Rattle.cadence_text.specs.Line.{kind_text, tag_text}
use Rattle.cadence_text.specs.Metric.{Tag}
use Rattle.cadence_text.specs.OneReading.{IsClearTag, IsFreeText}
use Rattle.cadence_text.specs.TextValue.{IsMember, change_text}
use Rattle.cadence_words.specs.Finds.{FailsAsWord}
use Rattle.cadence_errors.specs.declared.input_error.InputError.{InputError}
use Rattle.cadence_words.specs.declared.word_error.Part.{Part}
use Rattle.cadence_words.specs.Duration.{IsDurationWord}
use Rattle.cadence_value.specs.SpelledNumber.{SaysDecimal, SaysNumber}
use Rattle.cadence_value.specs.Number.{IsDecimal, Number, numbers_text}

-- whether a list has an element
abbrev pub has_some : {X : Type 0} → List X → Bool
has_some [] = false
has_some (x ∷ xs) = true

-- the words of a text: the pieces between its spaces, without the empty ones
abbrev pub words_of : List ℕ → List (List ℕ)
words_of text = filter has_some (slice_split (λ b. b == 32) text)

-- the name of a kind: that of the client's call
abbrev pub kind_name : MetricType → List ℕ
kind_name Counter = codes "count"
kind_name Timer = codes "time"
kind_name Gauge = codes "gauge"
kind_name Meter = codes "meter"
kind_name Histogram = codes "histogram"
kind_name Set = codes "set"
kind_name Distribution = codes "distribution"

-- The word is the type text of the kind, as `c`, or its name, as `count`.
abbrev pub NamesKind : List ℕ → MetricType → Type 0
NamesKind word kind = (word ≡ kind_text kind) ⊎ (word ≡ kind_name kind)

-- The text is not empty and has no separator.
abbrev pub IsWord : List ℕ → Type 0
IsWord text = (0 < length text) × IsFreeText text

-- The word is the text of the tag. It is not empty, and the tag is clear.
pub record IsTagWord (word : List ℕ) (tag : Tag) : Type 0 where
  pub whole : tag_text tag ≡ word
  pub clear : IsClearTag tag
  pub some : 0 < length word

-- The number is whole and fits a signed integer of 64 bits.
abbrev pub IsSigned : Number → Type 0
IsSigned n = (n.places ≡ 0) × FitsSigned w64 n.mantissa

-- The number is whole and fits an unsigned integer of 64 bits.
abbrev pub IsUnsigned : Number → Type 0
IsUnsigned n = (n.places ≡ 0) × FitsUnsigned w64 n.mantissa

-- The number isn't below 0.
abbrev pub IsFromZero : Number → Type 0
IsFromZero n = is_negative n.mantissa ≡ false

-- A metric of this kind can have this number as its value.
abbrev pub AllowsNumber : MetricType → Number → Type 0
AllowsNumber Counter n = IsSigned n ⊎ IsUnsigned n
AllowsNumber Timer n = IsFromZero n
AllowsNumber Gauge n = ⊤
AllowsNumber Meter n = IsUnsigned n
AllowsNumber Histogram n = ⊤
AllowsNumber Set n = ⊥
AllowsNumber Distribution n = ⊤

-- The word says this number, and the kind allows it.
pub record IsPlainWord (kind : MetricType) (word : List ℕ) (n : Number) : Type 0 where
  pub decimal : IsDecimal n
  pub says : SaysNumber word n
  pub takes : AllowsNumber kind n

-- The word says this number, or a duration whose value for this kind is this number.
abbrev pub IsNumberWord : MetricType → List ℕ → Number → Type 0
IsNumberWord kind word n = IsPlainWord kind word n ⊎ IsDurationWord kind word n

-- A metric of this kind can have several values in one line.
abbrev pub AllowsSeveral : MetricType → Type 0
AllowsSeveral Counter = ⊥
AllowsSeveral Timer = ⊤
AllowsSeveral Gauge = ⊥
AllowsSeveral Meter = ⊥
AllowsSeveral Histogram = ⊤
AllowsSeveral Set = ⊥
AllowsSeveral Distribution = ⊤

-- The pieces between the commas of the word say these numbers: one number, or several if the kind allows several.
pub record IsValueWord (kind : MetricType) (word : List ℕ) (numbers : List Number) : Type 0 where
  pub each : AllZip (IsNumberWord kind) (slice_split (λ b. b == 44) word) numbers
  pub few : AllowsSeveral kind ⊎ (length numbers ≡ 1)

-- whether the word begins with this byte
abbrev pub begins_with : ℕ → List ℕ → Bool
begins_with mark [] = false
begins_with mark (byte ∷ bytes) = byte == mark

-- whether the value that the word says for a kind is a text: a member of a set, or a change of a gauge
abbrev pub is_text_word : MetricType → List ℕ → Bool
is_text_word Counter word = false
is_text_word Timer word = false
is_text_word Gauge word = begins_with 43 word
is_text_word Meter word = false
is_text_word Histogram word = false
is_text_word Set word = true
is_text_word Distribution word = false

-- The word is a member of a set, and this is its text.
abbrev pub SaysMember : List ℕ → List ℕ → Type 0
SaysMember word text = IsMember word × (text ≡ word)

-- The word says by which number a gauge changes, and this is the text of the change.
abbrev pub SaysChange : List ℕ → List ℕ → Type 0
SaysChange word text = (n : Number) × SaysDecimal word n × (text ≡ change_text n)

-- The word says a value of a metric of this kind that is a text, and this is the text.
abbrev pub SaysText : MetricType → List ℕ → List ℕ → Type 0
SaysText Counter word text = ⊥
SaysText Timer word text = ⊥
SaysText Gauge word text = SaysChange word text
SaysText Meter word text = ⊥
SaysText Histogram word text = ⊥
SaysText Set word text = SaysMember word text
SaysText Distribution word text = ⊥

-- The word says numbers that a metric of this kind can have as its value, and this is their text.
abbrev pub SaysNumbers : MetricType → List ℕ → List ℕ → Type 0
SaysNumbers kind word text = (numbers : List Number) × IsValueWord kind word numbers × (text ≡ numbers_text numbers)

-- The word says a value of a metric of this kind: a text (`true`) or numbers.
abbrev pub SaysValue : Bool → MetricType → List ℕ → List ℕ → Type 0
SaysValue true kind word text = SaysText kind word text
SaysValue false kind word text = SaysNumbers kind word text

-- The word says a value of a metric of this kind, and this is the text of the value in the line.
abbrev pub IsValueOf : MetricType → List ℕ → List ℕ → Type 0
IsValueOf kind word text = SaysValue (is_text_word kind word) kind word text

-- whether the word sets a metric of this kind to a number: it begins with `=`, and the kind is that of gauges
abbrev pub is_level_word : MetricType → List ℕ → Bool
is_level_word Counter word = false
is_level_word Timer word = false
is_level_word Gauge word = begins_with 61 word
is_level_word Meter word = false
is_level_word Histogram word = false
is_level_word Set word = false
is_level_word Distribution word = false

-- The word is `=` and a number after it, which is this.
abbrev pub SaysLevel : List ℕ → Number → Type 0
SaysLevel [] n = ⊥
SaysLevel (byte ∷ word) n = (byte ≡ 61) × SaysDecimal word n

-- what a word says about a metric: the text of its value, or the number to which a gauge is set
pub data Said : Type 0 where
  valued : List ℕ → Said
  leveled : Number → Said

-- The word, which sets a gauge (`true`) or not, says this about a metric of this kind.
abbrev pub SaysOf : Bool → MetricType → List ℕ → Said → Type 0
SaysOf true kind word (leveled n) = SaysLevel word n
SaysOf true kind word (valued text) = ⊥
SaysOf false kind word (leveled n) = ⊥
SaysOf false kind word (valued text) = IsValueOf kind word text

-- The word says this about a metric of this kind.
abbrev pub IsSaidOf : MetricType → List ℕ → Said → Type 0
IsSaidOf kind word said = SaysOf (is_level_word kind word) kind word said

-- The first word names the kind, the second is a name, and the third says this.
pub record AreHead (kind_word name value : List ℕ) (kind : MetricType) (said : Said) : Type 0 where
  pub named : NamesKind kind_word kind
  pub word : IsWord name
  pub says : IsSaidOf kind value said

-- If the result is Ok, the draft got the word's tag. If it is an error, it is one that `FailsAsWord` allows.
abbrev pub AddsTag : List ℕ → Draft → Draft → Result (Unit {0}) (InputError Part) → Type 0
AddsTag word old new (Ok done) = (tag : Tag) × IsTagWord word tag × (new ≡ with_tag_text old tag)
AddsTag word old new (Err fault) = FailsAsWord (IsTagWord word) fault

-- If the result is Ok, the draft got the words' tags. If it is an error, it is one that `FailsAsWord` allows.
abbrev pub AddsTags : List (List ℕ) → Draft → Draft → Result (Unit {0}) (InputError Part) → Type 0
AddsTags words old new (Ok done) = (tags : List Tag) × AllZip IsTagWord words tags × (new ≡ fold with_tag_text old tags)
AddsTags words old new (Err fault) = FailsAsWord (AllZip IsTagWord words) fault
