-- Calls, their options, and the metric that a call makes with the settings of a client.
use Rattle.std.specs.Prelude.{◌≡◌, ℕ, Option, None, Some, List, [], ◌∷◌, ◌++◌, Result, map}
use Rattle.std.specs.Option.{option_or}
use Rattle.std.specs.Prelude.{Bool, true, not, ◌&&◌, ◌||◌}
use Rattle.std.specs.List.{filter_map, fold, list_all}
use Rattle.cadence_text.specs.declared.line.MetricType.{MetricType}
use Rattle.cadence_text.specs.declared.line.enrichment.Cardinality.{Cardinality}
use Rattle.cadence_errors.specs.declared.MetricError.{MetricError}
use Rattle.cadence_errors.specs.Errors.{Gives}
use Rattle.cadence_text.specs.Draft.{Draft, draft_of}
use Rattle.cadence_text.specs.Cleaned.{tag_as, text_as}
use Rattle.cadence_text.specs.Metric.{Metric, Tag}
use Rattle.cadence_text.specs.Representable.{IsRepresentable}
use Rattle.cadence_value.specs.Number.{Number}
use Rattle.cadence_text.specs.FreeTexts.{is_free_text, is_clear_tag}
use Rattle.cadence_settings.specs.Settings.{Settings}

-- what one option of a call chooses: a tag, the container, the time, the sampling rate or the cardinality
pub data Choice : Type 0 where
  tagged : Tag → Choice
  contained : List ℕ → Choice
  timed : ℕ → Choice
  rated : Number → Choice
  enriched : Cardinality → Choice

-- the tag that the option adds, if it is one
abbrev pub chosen_tag : Choice → Option Tag
chosen_tag (tagged t) = Some t
chosen_tag (contained c) = None
chosen_tag (timed n) = None
chosen_tag (rated r) = None
chosen_tag (enriched k) = None

-- the container that the option sets, if it is one
abbrev pub chosen_container : Choice → Option (List ℕ)
chosen_container (tagged t) = None
chosen_container (contained c) = Some c
chosen_container (timed n) = None
chosen_container (rated r) = None
chosen_container (enriched k) = None

-- the time that the option sets, if it is one
abbrev pub chosen_time : Choice → Option ℕ
chosen_time (tagged t) = None
chosen_time (contained c) = None
chosen_time (timed n) = Some n
chosen_time (rated r) = None
chosen_time (enriched k) = None

-- the sampling rate that the option sets, if it is one
abbrev pub chosen_rate : Choice → Option Number
chosen_rate (tagged t) = None
chosen_rate (contained c) = None
chosen_rate (timed n) = None
chosen_rate (rated r) = Some r
chosen_rate (enriched k) = None

-- the cardinality that the option sets, if it is one
abbrev pub chosen_cardinality : Choice → Option Cardinality
chosen_cardinality (tagged t) = None
chosen_cardinality (contained c) = None
chosen_cardinality (timed n) = None
chosen_cardinality (rated r) = None
chosen_cardinality (enriched k) = Some k

-- the last value that `gives` finds in the list, or the default if it finds none
abbrev pub last_or : {X Y : Type 0} → (X → Option Y) → Option Y → List X → Option Y
last_or gives default xs = fold (λ last x. option_or (gives x) last) default xs

-- a call: the kind of its metric, its key, the numbers of its value, and its options in their order
pub record MetricCall : Type 0 where
  pub kind : MetricType
  pub key : List ℕ
  pub numbers : List Number
  pub choices : List Choice

-- a call without options
abbrev pub plain_call : MetricType → List ℕ → List Number → MetricCall
plain_call kind key numbers = record { kind = kind; key = key; numbers = numbers; choices = [] }

-- the call with one more option
abbrev pub with_choice : MetricCall → Choice → MetricCall
with_choice c o = record c { choices = c.choices ++ o ∷ [] }

-- whether the option is clear: it has no separator in a text, except colons after the key of a tag
abbrev pub is_clear_choice : Choice → Bool
is_clear_choice (tagged t) = is_clear_tag t
is_clear_choice (contained c) = is_free_text c
is_clear_choice (timed n) = true
is_clear_choice (rated r) = true
is_clear_choice (enriched k) = true

-- whether the call is clear: its key has no separator, and each option of it is clear
abbrev pub is_clear_call : MetricCall → Bool
is_clear_call c = list_all is_clear_choice c.choices && is_free_text c.key

-- whether the settings allow the option: each option, or if they are strict, each clear one
abbrev pub allows_choice : Settings → Choice → Bool
allows_choice s o = not s.strict || is_clear_choice o

-- whether the settings allow the call: each call, or if they are strict, each clear one
abbrev pub allows_call : Settings → MetricCall → Bool
allows_call s c = not s.strict || is_clear_call c

-- The metric of a call. Its name is the prefix and the key; its tags are the default tags and then the call's own; its
-- container and its cardinality are the last ones that the call sets, or the default ones if there is none; its external
-- data are those of the settings; its rate and its time are the last ones that the call sets.
unfoldable pub metric_of_call : Settings → MetricCall → Metric
metric_of_call s c = record {
  name = s.prefix ++ c.key;
  numbers = c.numbers;
  kind = c.kind;
  rate = last_or chosen_rate None c.choices;
  tags = s.tags ++ filter_map chosen_tag c.choices;
  container = last_or chosen_container s.container c.choices;
  enrichment = record s.enrichment { cardinality = last_or chosen_cardinality s.enrichment.cardinality c.choices };
  time = last_or chosen_time None c.choices;
}

-- the metric after one option is applied to it
abbrev pub chosen : Metric → Choice → Metric
chosen m (tagged t) = record m { tags = m.tags ++ t ∷ [] }
chosen m (contained c) = record m { container = Some c }
chosen m (timed n) = record m { time = Some n }
chosen m (rated r) = record m { rate = Some r }
chosen m (enriched k) = record m { enrichment = record m.enrichment { cardinality = Some k } }

-- the option as it is, or with a cleaned text (`true`)
abbrev pub choice_as : Bool → Choice → Choice
choice_as is_cleaned (tagged t) = tagged (tag_as is_cleaned t)
choice_as is_cleaned (contained c) = contained (text_as is_cleaned c)
choice_as is_cleaned (timed n) = timed n
choice_as is_cleaned (rated r) = rated r
choice_as is_cleaned (enriched k) = enriched k

-- the call as the settings send it: as it is, or with cleaned texts if they clean texts
abbrev pub call_for : Settings → MetricCall → MetricCall
call_for s c = record c { key = text_as s.cleaned c.key; choices = map (choice_as s.cleaned) c.choices }

-- the metric that the settings make of a call
abbrev pub metric_for : Settings → MetricCall → Metric
metric_for s c = metric_of_call s (call_for s c)

-- The draft is that of the metric, whose texts are in UTF-8, and whose numbers a `Decimal` can have.
abbrev pub IsDraftOf : Metric → Draft → Type 0
IsDraftOf m draft = (draft ≡ draft_of m) × IsRepresentable m

-- A function returns the metric, or `OutOfMemory`; if there is no metric, because a duration of the call passes 64
-- bits or the settings don't allow the call, it returns an error of kind `InvalidInput`.
abbrev pub MakesMetric : Option Metric → Result Metric MetricError → Type 0
MakesMetric = Gives (λ m r. r ≡ m)
