-- Values that are texts and no numbers: members of sets, and changes of gauges.
use Rattle.std.specs.Prelude.{◌≢◌, ◌<◌, ⊤, ℕ, if◌then◌else◌, List, [], ◌++◌, All, codes, length}
use Rattle.std.specs.Int.{is_negative}
use Rattle.cadence_text.specs.declared.line.MetricType.{MetricType}
use Rattle.cadence_text.specs.declared.line.MetricType.TheVariants.{Gauge, Set}
use Rattle.cadence_text.specs.declared.line.draft.text.TextValue.{TextValue}
use Rattle.cadence_text.specs.declared.line.draft.text.TextValue.TheVariants.{Member, Change}
use Rattle.cadence_text.specs.Draft.{head_with}
use Rattle.cadence_value.specs.Number.{Number, number_text}

-- The byte doesn't end a value: it is neither a colon nor a bar nor a newline.
abbrev pub EndsNoValue : ℕ → Type 0
EndsNoValue byte = (byte ≢ 58) × (byte ≢ 124) × (byte ≢ 10)

-- The text can be a member of a set: it isn't empty, and no byte of it ends a value.
pub record IsMember (text : List ℕ) : Type 0 where
  pub some : 0 < length text
  pub whole : All EndsNoValue text

-- the text of a change of a gauge by this number, which begins with a sign
abbrev pub change_text : Number → List ℕ
change_text n = (if is_negative n.mantissa then [] else codes "+") ++ number_text n

-- the text of a value
abbrev pub value_text : TextValue → List ℕ
value_text (Member text) = text.now
value_text (Change n) = change_text n

-- the kind of metric that has such a value
abbrev pub value_kind : TextValue → MetricType
value_kind (Member text) = Set
value_kind (Change n) = Gauge

-- A line can have this value: each change, and a member that its text can be.
abbrev pub IsFitValue : TextValue → Type 0
IsFitValue (Member text) = IsMember text.now
IsFitValue (Change n) = ⊤

-- the head whose name is this prefix followed by this key, and whose value is a text
abbrev pub text_head : List ℕ → List ℕ → TextValue → List ℕ
text_head prefix key value = head_with (prefix ++ key) (value_text value) (value_kind value)
