-- What a line of any client says: what its metric adds to others of its context, or, if it can't be added, the line itself.
use Rattle.std.specs.Prelude.{◌≡◌, ◌≢◌, ℕ, Bool, true, false, List, ◌∷◌, ◌++◌, All, codes}
use Rattle.std.specs.Int.RustNames.{FitsSigned}
use mir.Syntax.{w64}
use Rattle.cadence_aggregate.specs.Server.{Sample, amount, level, member, timing, unclear, other}
use Rattle.cadence_read.specs.Cuts.{AreFields}
use Rattle.cadence_read.specs.Values.{AreNumbers, IsNumberText}
use Rattle.cadence_text.specs.declared.line.MetricType.{MetricType}
use Rattle.cadence_text.specs.declared.line.MetricType.TheVariants.{Counter, Timer, Gauge, Meter, Histogram, Set, Distribution}
use Rattle.cadence_text.specs.Line.{kind_text}
use Rattle.cadence_value.specs.Number.{whole}
use Rattle.cadence_value.specs.SpelledNumber.{SaysNumber}
use Rattle.cadence_aggregating.specs.Printed.{spliced}

-- whether the numbers of this kind are values whose distribution a server computes
abbrev pub is_timed : MetricType → Bool
is_timed Counter = false
is_timed Timer = true
is_timed Gauge = false
is_timed Meter = false
is_timed Histogram = true
is_timed Set = false
is_timed Distribution = true

-- The text has a comma.
abbrev pub HasComma : List ℕ → Type 0
HasComma text = (before : List ℕ) × (after : List ℕ) × (text ≡ before ++ 44 ∷ after)

-- The name begins as an event of DogStatsD does, as in `_e{5,4}`.
abbrev pub IsEventName : List ℕ → Type 0
IsEventName name = (rest : List ℕ) × (name ≡ codes "_e{" ++ rest) × HasComma rest

-- One of the fields is a time: somewhere the text has a bar and then a `T`. A metric with a time says what was so at that
-- time.
abbrev pub HasTime : List ℕ → Type 0
HasTime text = (before : List ℕ) × (after : List ℕ) × (text ≡ before ++ (codes "|T" ++ after))

-- This is the context of lines of this kind: the line of a metric without the values and the colon before them. It is a
-- name, a bar, the kind, and any other fields, each with a bar before it, but no time. What the fields are makes no
-- difference. The name is not that of an event.
pub record IsContext (kind : MetricType) (context : List ℕ) : Type 0 where
  pub name : List ℕ
  pub fields : List ℕ
  pub whole : context ≡ name ++ 124 ∷ (kind_text kind ++ fields)
  pub colon : All (λ byte. byte ≢ 58) name
  pub bar : All (λ byte. byte ≢ 124) name
  pub newline : All (λ byte. byte ≢ 10) context
  pub event : IsEventName name → ⊥
  pub marked : AreFields fields
  pub time : HasTime context → ⊥

-- The text can be a member of a set: it ends neither its field nor its line.
pub record IsMember (text : List ℕ) : Type 0 where
  pub bar : All (λ byte. byte ≢ 124) text
  pub newline : All (λ byte. byte ≢ 10) text

-- The line is that of a metric which can be added to others of its context, and says this. A counter has to have one whole
-- number, in any spelling, that fits 64 bits. The value of a gauge is one number, those of a timer, a histogram and a
-- distribution are numbers, and a member of a set is any text.
abbrev pub MetricSays : List ℕ → Sample → Type 0
MetricSays line (amount c n) =
    IsContext Counter c × FitsSigned w64 n × ((number : List ℕ) × (line ≡ spliced c number) × SaysNumber number (whole n))
MetricSays line (level c v) = IsContext Gauge c × (line ≡ spliced c v) × IsNumberText v
MetricSays line (member l) = (l ≡ line) × ((c : List ℕ) × (text : List ℕ) × IsContext Set c × (line ≡ spliced c text) × IsMember text)
MetricSays line (timing c t) =
    ((kind : MetricType) × (is_timed kind ≡ true) × IsContext kind c) × (line ≡ spliced c t) × AreNumbers t
MetricSays line (unclear l) = ⊥
MetricSays line (other l) = ⊥

-- Somewhere the line has a bar and then a `g`, as each line of a gauge has, so that a server may set a gauge by it.
abbrev pub MaySetGauge : List ℕ → Type 0
MaySetGauge line = (before : List ℕ) × (after : List ℕ) × (line ≡ before ++ (codes "|g" ++ after))

-- No metric of the line can be added.
abbrev pub IsNotAdded : List ℕ → Type 0
IsNotAdded line = (said : Sample) → MetricSays line said → ⊥

-- A reader gets this from the line: what its metric says, or, if no metric of it can be added, the line itself, which may
-- set a gauge or not.
abbrev pub LineSays : List ℕ → Sample → Type 0
LineSays line (amount c n) = MetricSays line (amount c n)
LineSays line (level c v) = MetricSays line (level c v)
LineSays line (member l) = MetricSays line (member l)
LineSays line (timing c t) = MetricSays line (timing c t)
LineSays line (unclear l) = (l ≡ line) × IsNotAdded line × MaySetGauge line
LineSays line (other l) = (l ≡ line) × IsNotAdded line × (MaySetGauge line → ⊥)
