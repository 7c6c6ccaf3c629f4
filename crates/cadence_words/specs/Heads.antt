-- What was read as a value.
use Rattle.std.specs.Prelude.{ℕ, List}
use Rattle.cadence_text.specs.declared.line.MetricType.{MetricType}
use Rattle.cadence_text.specs.declared.line.draft.text.TextValue.{TextValue}
use Rattle.cadence_text.specs.TextValue.{value_kind, value_text}
use Rattle.cadence_value.specs.Number.{numbers_text}
use Rattle.cadence_value.specs.Values.{numbers_of}
use Rattle.cadence_words.specs.Asked.{Said, leveled, valued}
use Rattle.cadence_words.specs.declared.given.Given.{Given}
use Rattle.cadence_words.specs.declared.given.Given.TheVariants.{Level, Value as GivenValue}
use Rattle.cadence_words.specs.declared.text.Value.{Value}
use Rattle.cadence_words.specs.declared.text.Value.TheVariants.{Numbers, Text}

-- the kind and the text of a value that is a text
abbrev pub text_head : TextValue → MetricType × List ℕ
text_head value = (value_kind value, value_text value)

-- the kind and the text of a value
abbrev pub head_of : {Z : Type 0} → Value Z → MetricType × List ℕ
head_of (Numbers kind value) = (kind, numbers_text (numbers_of value))
head_of (Text value) = text_head value

-- the kind of the metric, and what a word says about it
abbrev pub said_of : {Z : Type 0} → Given Z → MetricType × Said
said_of (GivenValue value) = ((head_of value).0, valued (head_of value).1)
said_of (Level kind n) = (kind, leveled n)
