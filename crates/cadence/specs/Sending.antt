-- What a builder of a metric stores, and what the calls that send a metric may return. A pending draft is the draft
-- that a builder stores, or the error that it stores instead.
use Rattle.std.specs.Prelude.{◌≡◌, ℕ, ◌⊎◌, List, [], ◌∷◌, ◌++◌, codes, Option, Some, None, Result, Ok, Err, IfOk, IfErr, IsErr, String}
use Rattle.std.specs.Prelude.{Bool, IsTrue, if◌then◌else◌, string_bytes}
use Rattle.std.specs.Int.{is_negative}
use Rattle.std.specs.Option.{option_map}
use Rattle.cadence_text.specs.declared.line.MetricType.{MetricType}
use Rattle.cadence_text.specs.declared.line.MetricType.TheVariants.{Gauge}
use Rattle.cadence_errors.specs.declared.MetricError.{MetricError}
use Rattle.cadence_errors.specs.declared.MetricError.TheVariants.{Sink}
use Rattle.cadence_errors.specs.declared.SinkError.{SinkError}
use Rattle.cadence_errors.specs.Errors.{Gives, IsInvalid, out_of_memory}
use Rattle.cadence_text.specs.Draft.{Draft, draft_line, draft_with, with_tag_text}
use Rattle.cadence_text.specs.Line.{line_with}
use Rattle.cadence_text.specs.Metric.{Metric}
use Rattle.cadence_value.specs.Chances.{IsBelow}
use Rattle.cadence_value.specs.Number.{Number, natural, numbers_text}
use Rattle.cadence_settings.specs.Call.{Choice, tagged, contained, timed, rated, enriched, MetricCall, choice_as, metric_for, metric_of_call, plain_call, with_choice}
use Rattle.cadence_settings.specs.Call.{allows_call, allows_choice}
use Rattle.cadence_settings.specs.Settings.{Settings, FailsFor}

-- for each text, which results a sink may return for it
abbrev pub SinkResults : Type 1
SinkResults = List ℕ → Result ℕ SinkError → Type 0

-- A call gave this text to the sink. If it returned Ok, the sink may accept this text. Otherwise it returned an error
-- that the sink may return for this text.
abbrev pub SendsText : {U : Type 0} → SinkResults → List ℕ → Result U MetricError → Type 0
SendsText may text (Ok _) = (n : ℕ) × may text (Ok n)
SendsText may text (Err e) = (fault : SinkError) × (e ≡ Sink fault) × may text (Err fault)

-- A call sent this line. If it returned Ok, what it returned was made from this line, and the sink may accept the line.
-- Otherwise memory ran out, or the sink may return this error for this line.
abbrev pub SendsLine : {M : Type 0} → SinkResults → (List ℕ → M → Type 0) → List ℕ → Result M MetricError → Type 0
SendsLine may made line (Ok m) = made line m × ((n : ℕ) × may line (Ok n))
SendsLine may made line (Err e) = (e ≡ out_of_memory) ⊎ ((fault : SinkError) × (e ≡ Sink fault) × may line (Err fault))

-- The text of a metric is this line.
abbrev pub IsLineText : List ℕ → List ℕ → Type 0
IsLineText line text = text ≡ line

-- A metric was made from a string that is this line.
abbrev pub IsMadeFrom : {M Z : Type 0} → (String Z → M → Type 0) → List ℕ → M → Type 0
IsMadeFrom {M} {Z} gives line m = (s : String Z) × (string_bytes s ≡ line) × gives s m

-- the metric of a call without options, which has no numbers, because its line takes the value as a text
abbrev pub plain_metric_of : Settings → MetricType → List ℕ → Metric
plain_metric_of settings kind key = metric_for settings (plain_call kind key [])

-- the text of the value, if there is one and the settings allow the call
abbrev pub allowed_value : Settings → MetricType → List ℕ → Option (List ℕ) → Option (List ℕ)
allowed_value settings kind key value = if allows_call settings (plain_call kind key []) then value else None

-- A call sent this line. If there is none, it returned an invalid input instead.
abbrev pub SendsIfAny : {M : Type 0} → SinkResults → (List ℕ → M → Type 0) → Option (List ℕ) → Result M MetricError → Type 0
SendsIfAny may made (Some line) r = SendsLine may made line r
SendsIfAny may made None (Ok m) = ⊥
SendsIfAny may made None (Err e) = IsInvalid e

-- A call of this kind, without options, sent the line that has this text as its value, and returned it as the metric.
-- The errors are an invalid input if there is no such text or the settings don't allow the call, out of memory, and
-- those that the sink may return for this line.
pub record SendsValue (settings : Settings) (may : SinkResults) (kind : MetricType) (key : List ℕ) (value : Option (List ℕ))
    (result : Result (List ℕ) MetricError) : Type 0 where
  pub is : SendsIfAny may IsLineText (option_map (λ v. line_with v (plain_metric_of settings kind key)) (allowed_value settings kind key value)) result

-- A call sent these numbers as its value. If there are none, it returned an invalid input.
abbrev pub SendsPlain : Settings → SinkResults → MetricType → List ℕ → Option (List Number) → Result (List ℕ) MetricError → Type 0
SendsPlain settings may kind key numbers result = SendsValue settings may kind key (option_map numbers_text numbers) result

-- A builder of this kind starts with the draft of the call without options that has this text as its value, or with the
-- error that memory ran out. If there is no such text or the settings don't allow the call, it starts with an invalid
-- input.
pub record StartsValue (settings : Settings) (kind : MetricType) (key : List ℕ) (value : Option (List ℕ))
    (pending : Result Draft MetricError) : Type 0 where
  pub is : Gives (λ v d. d ≡ draft_with v (plain_metric_of settings kind key)) (allowed_value settings kind key value) pending

-- A builder starts with these numbers as the value of its call. If there are none, it starts with an invalid input.
abbrev pub StartsPlain : Settings → MetricType → List ℕ → Option (List Number) → Result Draft MetricError → Type 0
StartsPlain settings kind key numbers pending = StartsValue settings kind key (option_map numbers_text numbers) pending

-- the option as a client with these settings sends it: as it is, or with a cleaned text
abbrev pub choice_for : Settings → Choice → Choice
choice_for settings o = choice_as settings.cleaned o

-- a draft with one more option
abbrev pub draft_with_choice : Draft → Choice → Draft
draft_with_choice d (tagged t) = with_tag_text d t
draft_with_choice d (contained c) = record d { container = Some c }
draft_with_choice d (timed n) = record d { time = Some n }
draft_with_choice d (rated r) = record d { rate = Some r }
draft_with_choice d (enriched k) = record d { enrichment = record d.enrichment { cardinality = Some k } }

-- An option changed the pending draft `old` to `new`. An error stays. A draft has the option if the settings allow it,
-- with a cleaned text if they clean texts; otherwise there is an invalid input. Only an option that takes memory (`true`) may instead fail because memory ran out.
-- It is a record, so that a proof about a chain of calls has one fact for each call and doesn't split it into cases.
pub record AppliesOption (settings : Settings) (takes_memory : Bool) (old : Result Draft MetricError) (o : Choice)
    (new : Result Draft MetricError) : Type 0 where
  pub stays : IfErr old (λ e. new ≡ Err e)
  pub applied : IfOk old (λ d. IfOk new (λ n. IsTrue (allows_choice settings o) × (n ≡ draft_with_choice d (choice_for settings o))))
  pub refused : IfOk old (λ _. IfErr new (FailsFor (allows_choice settings o)))
  pub allowed : IfOk old (λ _. IsErr new → IsTrue (allows_choice settings o) → IsTrue takes_memory)

-- A builder sent the line of its draft. If it stored an error, it returned this error instead.
pub record SendsPending {M : Type 0} (may : SinkResults) (made : List ℕ → M → Type 0) (pending : Result Draft MetricError)
    (answer : Result M MetricError) : Type 0 where
  pub sent : IfOk pending (λ d. SendsLine may made (draft_line d) answer)
  pub failed : IfErr pending (λ e. answer ≡ Err e)

-- A pending draft is right for a call whose value is this text: it is the draft of the call's metric with this value, or
-- an error. A call with numbers has their text as its value.
abbrev pub StandsFor : Settings → MetricCall → List ℕ → Result Draft MetricError → Type 0
StandsFor settings call value pending = IfOk pending (λ d. d ≡ draft_with value (metric_of_call settings call))

-- For each call for which the pending draft `old` is right, `new` is right for this call with one more option.
pub record StandsForMore (old : Result Draft MetricError) (o : Choice) (new : Result Draft MetricError) : Type 0 where
  pub for_each : (settings : Settings) (call : MetricCall) (value : List ℕ) → StandsFor settings call value old
      → StandsFor settings (with_choice call o) value new

-- For each call for which the pending draft is right, the line of this call was sent: what was returned was made from
-- this line, or memory ran out, or it is an error that the sink may return for this line.
pub record HasSentCall {M : Type 0} (may : SinkResults) (made : List ℕ → M → Type 0) (pending : Result Draft MetricError)
    (answer : Result M MetricError) : Type 0 where
  pub for_each : (settings : Settings) (call : MetricCall) (value : List ℕ) → StandsFor settings call value pending
      → IfOk pending (λ _. SendsLine may made (line_with value (metric_of_call settings call)) answer)

-- There is a metric, and it was made from this line.
abbrev pub IsSomeMade : {M : Type 0} → (List ℕ → M → Type 0) → List ℕ → Option M → Type 0
IsSomeMade made line (Some m) = made line m
IsSomeMade made line None = ⊥

-- A builder was sent with a chance and a drawn number. If the number is below the chance, then for each call for which the
-- pending draft is right, the line of this call with the chance as its rate was sent. Otherwise there is no metric. If the
-- builder stored an error, it returned this error instead.
pub record SendsSampled {M : Type 0} (may : SinkResults) (made : List ℕ → M → Type 0) (pending : Result Draft MetricError)
    (chance : Number) (draw : ℕ) (answer : Result (Option M) MetricError) : Type 0 where
  pub chosen : IsBelow draw chance → (settings : Settings) (call : MetricCall) (value : List ℕ) → StandsFor settings call value pending
      → IfOk pending (λ _. SendsLine may (IsSomeMade made) (line_with value (metric_of_call settings (with_choice call (rated chance)))) answer)
  pub passed : (IsBelow draw chance → ⊥) → IfOk pending (λ _. answer ≡ Ok None)
  pub failed : IfErr pending (λ e. answer ≡ Err e)

-- Two builders were sent as one text: the line of the first, a newline, and the line of the second. If one of them stored an
-- error, the call returned this error instead, that of the first if both did.
pub record SendsBoth {M : Type 0} (may : SinkResults) (made : List ℕ → M → Type 0) (first second : Result Draft MetricError)
    (answer : Result M MetricError) : Type 0 where
  pub sent : IfOk first (λ d. IfOk second (λ e. SendsLine may made (draft_line d ++ (codes "\n" ++ draft_line e)) answer))
  pub failed : IfErr first (λ e. answer ≡ Err e)
  pub second_failed : IfOk first (λ _. IfErr second (λ e. answer ≡ Err e))

-- the line that has this number as its value, and all else from the metric
abbrev pub number_line : Number → Metric → List ℕ
number_line n m = line_with (numbers_text (n ∷ [])) m

-- the text that sets a gauge to this number: the line that has it as its value, and if it is below 0, before it the line
-- that sets 0 and a newline
abbrev pub level_text : Number → Metric → List ℕ
level_text n m = if is_negative n.mantissa then number_line (natural 0) m ++ (codes "\n" ++ number_line n m) else number_line n m

-- A call set a gauge, without options, to this number: it sent the text for it, and returned the text as the metric. The
-- errors are those of a call that sends a value.
pub record SendsLevel (settings : Settings) (may : SinkResults) (key : List ℕ) (n : Number) (result : Result (List ℕ) MetricError) : Type 0 where
  pub is : SendsIfAny may IsLineText (option_map (λ _. level_text n (plain_metric_of settings Gauge key)) (allowed_value settings Gauge key (Some []))) result

-- A flush returned what the sink may return.
abbrev pub FlushesSink : (Result (Unit {0}) SinkError → Type 0) → Result (Unit {0}) MetricError → Type 0
FlushesSink may (Ok u) = may (Ok u)
FlushesSink may (Err e) = (fault : SinkError) × (e ≡ Sink fault) × may (Err fault)
