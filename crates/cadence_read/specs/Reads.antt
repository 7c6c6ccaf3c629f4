-- What each reader of a part of a line returns: one relation for each reader.
use Rattle.std.specs.Prelude.{◌≡◌, ⊤, ◌<◌, ◌^◌, ℕ, List, Option, All, IfSome, Result, Ok, Err, String, Vec, map}
use Rattle.std.specs.Option.{option_map}
use Rattle.std.specs.String.{string_bytes}
use Rattle.cadence_text.specs.declared.line.record.owned.OwnedMetric.{OwnedMetric}
use Rattle.cadence_text.specs.Line.{line_of, tag_text}
use Rattle.cadence_text.specs.Owned.{metric_of_owned, metrics_of, tag_of_owned}
use Rattle.cadence_value.specs.Finds.{HasNone}
use Rattle.cadence_value.specs.Number.{Number, IsDecimal, decimal_text, number_text, numbers_text}
use Rattle.cadence_errors.specs.declared.input_error.InputError.TheVariants.{Unusable, OutOfMemory}
use Rattle.cadence_read.specs.Faults.{Fault}
use Rattle.cadence_read.specs.LineTexts.{LineTexts, field_texts, tags_text}
use Rattle.cadence_read.specs.Listed.{IsListed, IsListedTag, IsText}

-- The common form of the relations. `Good` says which values count, `shown` is what a value looks like in a line, and
-- `view` is the value that the result of a call represents.

-- The value is a good one, and it looks like `y`.
abbrev pub PrintsAs : {X Y : Type 0} → (X → Type 0) → (X → Y) → Y → X → Type 0
PrintsAs Good shown y x = Good x × (shown x ≡ y)

-- If the text is unusable, no good value looks like `y`. If memory ran out, nothing is known.
abbrev pub FailsAs : {X Y : Type 0} → (X → Type 0) → (X → Y) → Y → Fault → Type 0
FailsAs Good shown y (Unusable why) = HasNone (PrintsAs Good shown y)
FailsAs Good shown y OutOfMemory = ⊤

-- If the reading returns a value, it is a good one that looks like `y`. If it returns an error, it is one that `FailsAs`
-- allows.
abbrev pub ReadsOrFails : {C X Y : Type 0} → (X → Type 0) → (X → Y) → Y → (C → X) → Result C Fault → Type 0
ReadsOrFails Good shown y view (Ok c) = PrintsAs Good shown y (view c)
ReadsOrFails Good shown y view (Err e) = FailsAs Good shown y e

-- The readers. Each returns what its comment says. If there is no such value, it returns that the text is unusable, and
-- if memory ran out, it says so.

-- A text that is in UTF-8 and has no separators: the text itself.
abbrev pub ReadsText : {Z : Type 0} → List ℕ → Result (String Z) Fault → Type 0
ReadsText text result = ReadsOrFails IsText (λ t. t) text string_bytes result

-- The numbers with this text, each of which could be a `Decimal`.
abbrev pub ReadsNumbers : {Z : Type 0} → List ℕ → Result (Vec Number Z) Fault → Type 0
ReadsNumbers text result = ReadsOrFails (All IsDecimal) numbers_text text (λ numbers. numbers.items) result

-- The rate with this text, which could be a `Decimal`, or no rate if there is no text.
abbrev pub ReadsRate : Option (List ℕ) → Result (Option Number) Fault → Type 0
ReadsRate text result = ReadsOrFails (λ rate. IfSome rate IsDecimal) (option_map number_text) text (λ rate. rate) result

-- The tag with this text.
abbrev pub ReadsTag : {Z : Type 0} → List ℕ → Result (Option (String Z) × String Z) Fault → Type 0
ReadsTag text result = ReadsOrFails IsListedTag tag_text text tag_of_owned result

-- The tags with this text, or no tags if there is no text.
abbrev pub ReadsTags : {Z : Type 0} → Option (List ℕ) → Result (Vec (Option (String Z) × String Z) Z) Fault → Type 0
ReadsTags text result = ReadsOrFails (All IsListedTag) tags_text text (λ tags. map tag_of_owned tags.items) result

-- The container, whose text is in UTF-8 and has no separators, or none if there is no text.
abbrev pub ReadsContainer : {Z : Type 0} → Option (List ℕ) → Result (Option (String Z)) Fault → Type 0
ReadsContainer text result = ReadsOrFails (λ container. IfSome container IsText) (λ container. container) text (option_map string_bytes) result

-- The time with this text, which fits 64 bits, or none if there is no text.
abbrev pub ReadsTime : Option (List ℕ) → Result (Option ℕ) Fault → Type 0
ReadsTime text result = ReadsOrFails (λ time. IfSome time (λ t. t < 2 ^ 64)) (option_map decimal_text) text (λ time. time) result

-- The metric whose fields have these texts.
abbrev pub ReadsFields : {Z : Type 0} → LineTexts → Result (OwnedMetric Z) Fault → Type 0
ReadsFields texts result = ReadsOrFails IsListed field_texts texts metric_of_owned result

-- The metric with this line.
abbrev pub ReadsMetric : {Z : Type 0} → List ℕ → Result (OwnedMetric Z) Fault → Type 0
ReadsMetric line result = ReadsOrFails IsListed line_of line metric_of_owned result

-- The metrics with these lines, in order.
abbrev pub ReadsMetrics : {Z : Type 0} → List (List ℕ) → Result (Vec (OwnedMetric Z) Z) Fault → Type 0
ReadsMetrics lines result = ReadsOrFails (All IsListed) (map line_of) lines metrics_of result
