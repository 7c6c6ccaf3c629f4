-- The arguments of a call of C, and the metric that the call means.
use Rattle.std.specs.Prelude.{◌≡◌, ◌≢◌, ◌⊎◌, ◌<◌, ◌≤◌, All, ℕ, ◌/◌, ◌==◌, if◌then◌else◌, ⊤, true, false, List, [], ◌∷◌, ◌++◌, map, Option, Some}
use Rattle.std.specs.Prelude.{None, Bool, ◌&&◌, length}
use Rattle.std.specs.List.{list_all}
use Rattle.std.specs.Option.{option_or}
use Rattle.std.specs.Str.{IsUtf8}
use Rattle.std.specs.Float.{Float}
use Rattle.std.specs.Int.RustNames.{FitsSigned}
use mir.Syntax.{w64}
use Rattle.cadence_float.specs.Worth.{IsRounded, IsSmall, IsTooLarge, StandsForFloat}
use Rattle.cadence_text.specs.declared.line.MetricType.{MetricType}
use Rattle.cadence_text.specs.declared.line.MetricType.TheVariants.{Counter, Timer, Gauge, Meter, Histogram, Set, Distribution}
use Rattle.cadence_text.specs.Line.{line_with}
use Rattle.cadence_text.specs.declared.line.enrichment.Cardinality.{Cardinality}
use Rattle.cadence_text.specs.declared.line.enrichment.Cardinality.TheVariants.{NoTags, Low, Orchestrator, High}
use Rattle.cadence_text.specs.Metric.{Enrichment, Metric, Tag}
use Rattle.cadence_text.specs.TextValue.{IsMember, change_text}
use Rattle.cadence_value.specs.Chances.{IsChance}
use Rattle.cadence_value.specs.Number.{Number, IsLowestForm, natural, numbers_text}
use Rattle.cadence_text.specs.Cleaned.{tag_as, text_as}
use Rattle.cadence_settings.specs.Call.{metric_for, plain_call}
use Rattle.cadence_text.specs.FreeTexts.{is_clear_tag, is_free_text}
use Rattle.cadence_settings.specs.Settings.{Settings}
use Rattle.cadence_host.specs.declared.call.CTag.{CTag}
use Rattle.cadence_host.specs.declared.call.CDecimal.{CDecimal}
use Rattle.cadence_host.specs.declared.call.COptions.{COptions}
use Rattle.cadence_host.specs.declared.settings.CSettings.{CSettings}

-- the number of sets in C
abbrev pub CADENCE_SET : ℕ
CADENCE_SET = 5

-- the number by which C names a change of a gauge, in place of a kind
abbrev pub CADENCE_CHANGE : ℕ
CADENCE_CHANGE = 7

-- the kind that has this number in C; a change belongs to a gauge
abbrev pub kind_named : ℕ → Option MetricType
kind_named n =
    if n == 0 then Some Counter else if n == 1 then Some Timer else if n == 2 then Some Gauge
    else if n == 3 then Some Meter else if n == 4 then Some Histogram else if n == CADENCE_SET then Some Set
    else if n == 6 then Some Distribution else if n == CADENCE_CHANGE then Some Gauge else None

-- the greatest number that a cardinality has in C
abbrev pub CADENCE_CARDINALITY_HIGH : ℕ
CADENCE_CARDINALITY_HIGH = 4

-- the cardinality that has this number in C
abbrev pub cardinality_named : ℕ → Option Cardinality
cardinality_named n =
    if n == 1 then Some NoTags else if n == 2 then Some Low else if n == 3 then Some Orchestrator
    else if n == CADENCE_CARDINALITY_HIGH then Some High else None

-- the enrichment with the cardinality that has this number in C, or as it is if none has it
abbrev pub with_c_cardinality : Enrichment → ℕ → Enrichment
with_c_cardinality e n = record e { cardinality = option_or (cardinality_named n) e.cardinality }

-- the tag of a struct of C: its text, and its key if the struct says that it has one
abbrev pub c_tag : CTag → Tag
c_tag tag = record { key = if tag.keyed then Some tag.key.now else None; text = tag.text.now }

-- The number is the lowest form of the decimal.
abbrev pub IsNumberOf : CDecimal → Number → Type 0
IsNumberOf d n = IsLowestForm d.mantissa d.places n

-- Each number belongs to the value at its place.
abbrev pub ArePairs : {A : Type 0} → (A → Number → Type 0) → List A → List Number → Type 0
ArePairs belongs [] [] = ⊤
ArePairs belongs [] (n ∷ ns) = ⊥
ArePairs belongs (v ∷ vs) [] = ⊥
ArePairs belongs (v ∷ vs) (n ∷ ns) = belongs v n × ArePairs belongs vs ns

-- Each number is that of the decimal at its place.
abbrev pub AreNumbersOf : List CDecimal → List Number → Type 0
AreNumbersOf ds ns = ArePairs IsNumberOf ds ns

-- The number is the decimal of a float that counts milliseconds, rounded to six places, or 0 if the float is small.
pub record IsMillisOf (x : Float) (n : Number) : Type 0 where
  pub small : IsSmall x → n ≡ natural 0
  pub rounded : (IsSmall x → ⊥) → (d : Number) × StandsForFloat d x × IsRounded d n

-- The number is that of a float in a metric of the kind k: in a timer the float counts milliseconds.
pub record IsNumberOfFloat (k : ℕ) (x : Float) (n : Number) : Type 0 where
  pub timer : k ≡ 1 → IsMillisOf x n
  pub other : k ≢ 1 → StandsForFloat n x

-- The mantissa of the number doesn't fit the 64 bits that a decimal of C has for it.
abbrev pub PassesDecimal : Number → Type 0
PassesDecimal n = FitsSigned w64 n.mantissa → ⊥

-- The decimal is no chance: it has too many decimal places for a number, or its number is no chance.
abbrev pub IsNoChance : CDecimal → Type 0
IsNoChance d = (30 < d.places) ⊎ ((n : Number) × IsNumberOf d n × (IsChance n → ⊥))

-- Each number is that of the float at its place, in a metric of the kind k.
abbrev pub AreNumbersOfFloats : ℕ → List Float → List Number → Type 0
AreNumbersOfFloats k xs ns = ArePairs (IsNumberOfFloat k) xs ns

-- None of the floats is NaN, infinite or too large.
abbrev pub AreFloatsInRange : List Float → Type 0
AreFloatsInRange xs = All (λ (x : Float). IsTooLarge x → ⊥) xs

-- the whole milliseconds in a number of nanoseconds; what is left is cut off
abbrev pub in_millis : ℕ → ℕ
in_millis nanos = nanos / 1_000_000

-- the numbers of durations in nanoseconds: milliseconds for a timer, nanoseconds for a histogram, and none for other
-- kinds
abbrev pub durations_of : ℕ → List ℕ → Option (List Number)
durations_of k nanos =
    if k == 1 then Some (map natural (map in_millis nanos)) else if k == 4 then Some (map natural nanos) else None

-- This is the sampling rate of the options, or none if they have none.
abbrev pub IsRateOf : COptions → Option Number → Type 0
IsRateOf o None = o.rated ≡ false
IsRateOf o (Some rate) = (o.rated ≡ true) × IsNumberOf o.rate rate

-- the tag of a struct of C as it is, or with cleaned texts (`true`)
abbrev pub c_tag_as : Bool → CTag → Tag
c_tag_as is_cleaned tag = tag_as is_cleaned (c_tag tag)

-- the metric with more tags, which come after its own, as they are or with cleaned texts (`true`)
abbrev pub with_c_tags : Bool → Metric → List CTag → Metric
with_c_tags is_cleaned m tags = record m { tags = m.tags ++ map (c_tag_as is_cleaned) tags }

-- the metric with options: their tags come after its own, and their rate, container, cardinality and time replace its
-- own if they have these. The texts of the options are as they are, or cleaned (`true`).
abbrev pub with_options : Bool → Metric → COptions → Option Number → Metric
with_options is_cleaned m o rate = record m {
  rate = option_or rate m.rate;
  tags = m.tags ++ map (c_tag_as is_cleaned) o.tags.now;
  container = if o.contained then Some (text_as is_cleaned o.container.now) else m.container;
  enrichment = with_c_cardinality m.enrichment o.cardinality;
  time = if o.timed then Some o.time else m.time;
}

-- This is the text of the numbers of a call with the number k. A change is one number, and has its sign.
pub record IsTextOfNumbers (k : ℕ) (numbers : List Number) (text : List ℕ) : Type 0 where
  pub change : k ≡ CADENCE_CHANGE → (n : Number) × (numbers ≡ n ∷ []) × (text ≡ change_text n)
  pub other : k ≢ CADENCE_CHANGE → text ≡ numbers_text numbers

-- `has` holds of some numbers, and this is their text in a call whose kind has the number k.
abbrev pub IsTextOf : ℕ → (List Number → Type 0) → List ℕ → Type 0
IsTextOf k has text = (numbers : List Number) × has numbers × IsTextOfNumbers k numbers text

-- The call with the number k is a change, and has not exactly one value.
pub record IsNoChange {A : Type 0} (k : ℕ) (values : List A) : Type 0 where
  pub change : k ≡ CADENCE_CHANGE
  pub several : length values ≢ 1

-- The text is that of a value of a set, which is a text: it is this text, and can be a member of a set.
abbrev pub IsMemberText : List ℕ → List ℕ → Type 0
IsMemberText member text = (text ≡ member) × IsMember text

-- The text is not UTF-8, or can't be a member of a set.
abbrev pub IsNoMember : List ℕ → Type 0
IsNoMember member = IsUtf8 member → IsMember member → ⊥

-- the metric, without its value, that a call with options sends through a client with these settings
abbrev pub metric_with : Settings → MetricType → List ℕ → COptions → Option Number → Metric
metric_with s kind key o rate = with_options s.cleaned (metric_for s (plain_call kind key [])) o rate

-- the line that a call with options, whose value has this text, sends through a client with these settings
abbrev pub line_of_call : Settings → MetricType → List ℕ → List ℕ → COptions → Option Number → List ℕ
line_of_call s kind key value o rate = line_with value (metric_with s kind key o rate)

-- A call with the kind of the number k means the metric m, but for its value.
pub record IsMetricOfCall (s : Settings) (k : ℕ) (key : List ℕ) (o : COptions) (m : Metric) : Type 0 where
  pub kind : kind_named k ≡ Some m.kind
  pub rate : IsRateOf o m.rate
  pub metric : m ≡ metric_with s m.kind key o m.rate

-- This is the line of the metric that a call means, with this text as its value.
abbrev pub IsLineOfCall : Settings → ℕ → List ℕ → List ℕ → COptions → List ℕ → Type 0
IsLineOfCall s k key value o line = (m : Metric) × IsMetricOfCall s k key o m × (line ≡ line_with value m)

-- The text of a tag is UTF-8, and so is its key if it has one.
pub record IsUtf8Tag (tag : CTag) : Type 0 where
  pub text : IsUtf8 tag.text.now
  pub key : tag.keyed ≡ true → IsUtf8 tag.key.now

-- The tags of the options are UTF-8, and so is their container if they have one.
pub record IsUtf8Options (o : COptions) : Type 0 where
  pub tags : All IsUtf8Tag o.tags.now
  pub container : o.contained ≡ true → IsUtf8 o.container.now

-- The options have a rate, and it has too many decimal places.
pub record HasInvalidRate (o : COptions) : Type 0 where
  pub rated : o.rated ≡ true
  pub many : 30 < o.rate.places

-- The key and the options of a call are UTF-8.
abbrev pub IsUtf8Call : List ℕ → COptions → Type 0
IsUtf8Call key o = IsUtf8 key × IsUtf8Options o

-- If the options say that the texts of a call are known to be UTF-8, they are.
abbrev pub IsUtf8IfKnown : List ℕ → COptions → Type 0
IsUtf8IfKnown key o = o.known ≡ true → IsUtf8Call key o

-- The numbers of the cardinalities that the settings and the options name are 0, for none, or those of cardinalities.
pub record AreCardinalities (c : CSettings) (o : COptions) : Type 0 where
  pub settings : c.cardinality ≤ CADENCE_CARDINALITY_HIGH
  pub options : o.cardinality ≤ CADENCE_CARDINALITY_HIGH

-- The number of the cardinality that the settings or the options name is neither 0 nor that of a cardinality.
abbrev pub HasInvalidCardinality : CSettings → COptions → Type 0
HasInvalidCardinality c o = (CADENCE_CARDINALITY_HIGH < c.cardinality) ⊎ (CADENCE_CARDINALITY_HIGH < o.cardinality)

-- No kind has the number k, the rate has too many decimal places, or a cardinality is unknown.
abbrev pub IsInvalidCall : CSettings → ℕ → COptions → Type 0
IsInvalidCall c k o = (kind_named k ≡ None) ⊎ (HasInvalidRate o ⊎ HasInvalidCardinality c o)

-- whether the container of the options, if they have one, has no separator
abbrev pub is_free_container : COptions → Bool
is_free_container o = if o.contained then is_free_text o.container.now else true

-- whether each tag of the options is clear, and the container has no separator
abbrev pub are_clear_options : COptions → Bool
are_clear_options o = list_all is_clear_tag (map c_tag o.tags.now) && is_free_container o

-- whether the call is clear: neither its key nor its container has a separator, and each tag of its options is clear
abbrev pub is_clear_call_of_c : List ℕ → COptions → Bool
is_clear_call_of_c key o = are_clear_options o && is_free_text key

-- Each of the numbers has at most 30 decimal places.
abbrev pub AreValidDecimals : List CDecimal → Type 0
AreValidDecimals ds = All (λ (d : CDecimal). d.places ≤ 30) ds
