-- The metric of a call and its options: what each option adds, and the drafts of lines that they lead to.
use Rattle.std.proofs.Common.{◌≡◌, ℕ, ◌<◌, ◌^◌, List, [], ◌∷◌, ◌++◌, Option, Some, None, Result, Ok, Err, ap, ap₂, ◌∙◌, refl, subst, sym, append_assoc, Bool}
use Rattle.std.proofs.lemmas.List.{append-nil, map-append}
use Rattle.std.proofs.lemmas.List.Elements.{All-map, filter_map-append}
use Rattle.std.proofs.lemmas.List.Sums.{fold-append}
use Rattle.std.specs.List.{fold}
use Rattle.std.specs.Option.{option_map}
use Rattle.cadence_text.specs.declared.line.MetricType.{MetricType}
use Rattle.cadence_value.specs.declared.value.MetricValue.{MetricValue}
use Rattle.cadence_text.specs.Cleaned.{text_as}
use Rattle.cadence_text.specs.Draft.{draft_of, draft_with, head_text, head_with, Draft}
use Rattle.cadence_text.specs.DraftParts.{plain_draft}
use Rattle.std.specs.Prelude.{All, IfSome, IsUtf8, map, slice_index_or, String, string_bytes}
use Rattle.std.proofs.lemmas.Str.{IsUtf8-string_bytes}
use Rattle.cadence_text.specs.Owned.{tag_of_owned}
use Rattle.cadence_settings.specs.declared.settings.ClientSettings.TheInside.{Inside}
use Rattle.cadence_settings.specs.SettingsParts.{settings_seen}
use Rattle.cadence_text.specs.Line.{line_of, tags_field}
use Rattle.cadence_errors.specs.declared.MetricError.{MetricError}
use Rattle.cadence_settings.specs.CallData.{LineFails}
use Rattle.cadence_text.specs.Representable.{IsRepresentable, IsRepresentableTag}
use Rattle.cadence_text.specs.Metric.{Enrichment, Metric, Tag}
use Rattle.cadence_value.specs.Number.{IsDecimal, Number, numbers_text}
use Rattle.cadence_value.specs.Values.{Converts, numbers_of}
use Rattle.cadence_settings.specs.Settings.{Settings}
use Rattle.cadence_settings.specs.Call.{Choice, tagged, contained, timed, rated, enriched, IsDraftOf, MetricCall, choice_as, plain_call, with_choice, chosen}
use Rattle.cadence_settings.specs.Call.{metric_of_call, MakesMetric}
use Rattle.cadence_settings.specs.CallData.{choice_of, kind_of_value, metric_of_data, numbers_of_data, sent_choice}
use Rattle.cadence_settings.specs.declared.call.Call.{Call}
use Rattle.cadence_settings.specs.declared.call.CallOption.{CallOption}

-- applying an option to the metric of a call gives the metric of the call with that option added
pub chosen-metric_of_call : (s : Settings) (c : MetricCall) (o : Choice) → chosen (metric_of_call s c) o ≡ metric_of_call s (with_choice c o)
unfolding metric_of_call
chosen-metric_of_call s c (tagged t) = simp (filter_map-append, fold-append, append_assoc)
chosen-metric_of_call s c (contained t) = simp (filter_map-append, fold-append, append-nil)
chosen-metric_of_call s c (timed t) = simp (filter_map-append, fold-append, append-nil)
chosen-metric_of_call s c (rated t) = simp (filter_map-append, fold-append, append-nil)
chosen-metric_of_call s c (enriched t) = simp (filter_map-append, fold-append, append-nil)

-- applying a list of options to the metric of a call gives the metric of the call with these options added
pub fold-chosen : (s : Settings) (c : MetricCall) (os : List Choice)
    → fold chosen (metric_of_call s c) os ≡ metric_of_call s (record c { choices = c.choices ++ os })
fold-chosen s c [] = ap (λ (o : List Choice). metric_of_call s (record c { choices = o })) (sym (append-nil c.choices))
fold-chosen s c (o ∷ os) =
    ap (λ (m : Metric). fold chosen m os) (chosen-metric_of_call s c o)
    ∙ (fold-chosen s (with_choice c o) os
    ∙ ap (λ (l : List Choice). metric_of_call s (record c { choices = l })) (append_assoc c.choices (o ∷ []) os))

-- one more option of a list is applied
pub chosen_more : {X : Type 0} (choice : X → Choice) (m : Metric) (taken more : List X) (o : X)
    → more ≡ taken ++ o ∷ [] → chosen (fold chosen m (map choice taken)) (choice o) ≡ fold chosen m (map choice more)
chosen_more choice m taken more o e =
    cc (
      map-append choice taken (o ∷ []),
      fold-append chosen m (map choice taken) (choice o ∷ []),
    )

-- the metric of a call without options, after its options are applied, is the metric of the call
pub makes_metric-fold : {Z : Type 0} (s : Settings) (kind : MetricType) (key : List ℕ) (os : List Choice) (numbers : Option (List Number))
    (v : MetricValue Z) (m n : Metric)
    → Converts numbers (Ok v) → m ≡ metric_of_call s (plain_call kind key (numbers_of v)) → n ≡ fold chosen m os
    → MakesMetric (option_map (λ (ns : List Number). metric_of_call s (record { kind = kind; key = key; numbers = ns; choices = os })) numbers) (Ok n)
makes_metric-fold s kind key os (Some ns) v m n same made all =
    all ∙ (ap (λ (d : Metric). fold chosen d os) (made ∙ ap (λ (k : List Number). metric_of_call s (plain_call kind key k)) same)
    ∙ fold-chosen s (plain_call kind key ns) os)
makes_metric-fold s kind key os None v m n same made all = absurd same

-- the draft of a head, tags, a container and an enrichment
abbrev pub enriched_draft : List ℕ → List ℕ → Option (List ℕ) → Enrichment → Draft
enriched_draft head tags container enrichment = record (plain_draft head tags container) { enrichment = enrichment }

-- the draft of a call without options that has this text as its value
draft_of_plain : (s : Settings) (kind : MetricType) (key value : List ℕ) (ns : List Number)
    → enriched_draft (head_with (s.prefix ++ key) value kind) (tags_field s.tags) s.container s.enrichment
    ≡ draft_with value (metric_of_call s (plain_call kind key ns))
unfolding metric_of_call
draft_of_plain s kind key value ns =
    ap (λ (ts : List Tag). enriched_draft (head_with (s.prefix ++ key) value kind) (tags_field ts) s.container s.enrichment) (sym (append-nil s.tags))

-- the same, from texts that are those of the settings
pub draft_of_value : (s : Settings) (kind : MetricType) (prefix key value tags : List ℕ) (container : Option (List ℕ)) (ns : List Number)
    → prefix ≡ s.prefix → tags ≡ tags_field s.tags → container ≡ s.container
    → enriched_draft (head_with (prefix ++ key) value kind) tags container s.enrichment ≡ draft_with value (metric_of_call s (plain_call kind key ns))
draft_of_value s kind prefix key value tags container ns p t c =
    (λ i. enriched_draft (head_with (p i ++ key) value kind) (t i) (c i) s.enrichment) ∙ draft_of_plain s kind key value ns

-- the draft of a call without options, from texts that are those of the settings
pub draft_of_call : (s : Settings) (kind : MetricType) (prefix key tags : List ℕ) (container : Option (List ℕ)) (ns : List Number)
    → prefix ≡ s.prefix → tags ≡ tags_field s.tags → container ≡ s.container
    → enriched_draft (head_text (prefix ++ key) ns kind) tags container s.enrichment ≡ draft_of (metric_of_call s (plain_call kind key ns))
unfolding metric_of_call
draft_of_call s kind prefix key tags container ns p t c = draft_of_value s kind prefix key (numbers_text ns) tags container ns p t c

-- the options of a call in its line, one after the other or all at once
twice_mapped : {Z : Type 0} (cleaned : Bool) (os : List (CallOption Z))
    → map (sent_choice cleaned) os ≡ map (choice_as cleaned) (map choice_of os)
twice_mapped cleaned [] = refl
twice_mapped cleaned (o ∷ os) = ap (λ cs. sent_choice cleaned o ∷ cs) (twice_mapped cleaned os)

-- a call that is kept as data has a metric, if its value converts and the settings allow it; and applying its options to the draft of the call
-- without options gives the draft of this metric
pub drafted_call : {Z : Type 0} (s : Settings) (call : Call Z) (v : MetricValue Z) (kind : MetricType) (key : List ℕ)
    (options : List (CallOption Z)) (old new : Draft)
    → Converts (numbers_of_data s call) (Ok v)
    → kind ≡ kind_of_value call.value → key ≡ text_as s.cleaned (string_bytes call.key) → options ≡ call.options.items
    → IsDraftOf (metric_of_call s (plain_call kind key (numbers_of v))) old
    → ((m : Metric) → IsDraftOf m old → IsDraftOf (fold chosen m (map (sent_choice s.cleaned) options)) new)
    → (m : Metric) × (metric_of_data s call ≡ Some m) × IsDraftOf m new
drafted_call s call v kind key options old new converts k n o begun grows =
    let first : Metric = metric_of_call s (plain_call kind key (numbers_of v)) in
    let sent = sent_choice s.cleaned in
    found (metric_of_data s call) (fold chosen first (map sent options))
    (makes_metric-fold s (kind_of_value call.value) (text_as s.cleaned (string_bytes call.key))
    (map (choice_as s.cleaned) (map choice_of call.options.items)) (numbers_of_data s call)
    v first (fold chosen first (map sent options)) converts (ap₂ (λ k n. metric_of_call s (plain_call k n (numbers_of v))) k n)
    (ap (λ (os : List (CallOption _)). fold chosen first (map sent os)) o
    ∙ ap (fold chosen first) (twice_mapped s.cleaned call.options.items)))
    (grows first begun)
  where
    found : (o : Option Metric) (m : Metric) → MakesMetric o (Ok m) → IsDraftOf m new → (m : Metric) × (o ≡ Some m) × IsDraftOf m new
    found (Some x) m h is = (m, ap Some (sym h), is)
    found None m h is = absurd h

-- the error of a value is that of the metric and of the line
pub metric_fails : {Z : Type 0} (f : List Number → Metric) (numbers : Option (List Number)) (r : Result (MetricValue Z) MetricError)
    (e : MetricError) → r ≡ Err e → Converts numbers r → MakesMetric (option_map f numbers) (Err e)
metric_fails f (Some ns) r e is h = subst (λ r. Converts (Some ns) r) is h
metric_fails f None r e is h = subst (λ r. Converts None r) is h

pub line_fails : {Z : Type 0} (f : List Number → Metric) (numbers : Option (List Number)) (r : Result (MetricValue Z) MetricError)
    (e : MetricError) → r ≡ Err e → Converts numbers r → LineFails (option_map line_of (option_map f numbers)) e
line_fails f (Some ns) r e is h = subst (λ r. Converts (Some ns) r) is h
line_fails f None r e is h = subst (λ r. Converts None r) is h

-- a draft after it gets a container
pub contained_draft : (m : Metric) (old new : Draft) (text : List ℕ) → new ≡ record old { container = Some text } → IsUtf8 text
    → IsDraftOf m old → IsDraftOf (chosen m (contained text)) new
contained_draft m old new text e utf8 (is, representable) = (
  e ∙ ap (λ (d : Draft). record d { container = Some text }) is,
  record {
    name = representable.name;
    numbers = representable.numbers;
    rate = representable.rate;
    tags = representable.tags;
    container = utf8;
    external = representable.external;
    time = representable.time;
  },
)

-- a draft after it gets a time
pub timed_draft : (m : Metric) (old new : Draft) (time : ℕ) → new ≡ record old { time = Some time } → time < 2 ^ 64 → IsDraftOf m old
    → IsDraftOf (chosen m (timed time)) new
timed_draft m old new time e fits (is, representable) = (
  e ∙ ap (λ (d : Draft). record d { time = Some time }) is,
  record {
    name = representable.name;
    numbers = representable.numbers;
    rate = representable.rate;
    tags = representable.tags;
    container = representable.container;
    external = representable.external;
    time = fits;
  },
)

-- a draft after it gets a sampling rate
pub rated_draft : (m : Metric) (old new : Draft) (rate : Number) → new ≡ record old { rate = Some rate } → IsDecimal rate → IsDraftOf m old
    → IsDraftOf (chosen m (rated rate)) new
rated_draft m old new rate e whole (is, representable) = (
  e ∙ ap (λ (d : Draft). record d { rate = Some rate }) is,
  record {
    name = representable.name;
    numbers = representable.numbers;
    rate = whole;
    tags = representable.tags;
    container = representable.container;
    external = representable.external;
    time = representable.time;
  },
)

-- the default tags are in UTF-8, because each `String` is
said_key : {Z : Type 0} (k : Option (String Z)) → IfSome (option_map string_bytes k) IsUtf8
said_key (Some k) = IsUtf8-string_bytes k
said_key None = tt

said_owned : {Z : Type 0} (ts : List (Option (String Z) × String Z)) → All IsRepresentableTag (map tag_of_owned ts)
said_owned ts =
    All-map IsRepresentableTag tag_of_owned ts (λ k d _. record {
      key = said_key (slice_index_or ts k d).0;
      text = IsUtf8-string_bytes
          (slice_index_or ts k d).1;
    })

-- the metric of a call without options has its texts in UTF-8 and numbers that a `Decimal` can have, if this holds for
-- its name and its numbers
pub said_plain : {Z : Type 0} (s : Inside Z) (kind : MetricType) (key : List ℕ) (ns : List Number) → IsUtf8 (string_bytes s.prefix ++ key)
    → All IsDecimal ns → IsRepresentable (metric_of_call (settings_seen s) (plain_call kind key ns))
unfolding metric_of_call
said_plain s kind key ns name numbers = record {
  name = name;
  numbers = numbers;
  rate = tt;
  tags = subst (λ (ts : List Tag). All IsRepresentableTag ts) (sym (append-nil (map tag_of_owned s.tags.items))) (said_owned s.tags.items);
  container = said_key s.container;
  external = said_key s.external;
  time = tt;
}

-- the metric of a call without options
pub metric_of_plain : (s : Settings) (kind : MetricType) (key : List ℕ) (ns : List Number)
    → record {
      name = s.prefix ++ key;
      numbers = ns;
      kind = kind;
      rate = None;
      tags = s.tags;
      container = s.container;
      enrichment = s.enrichment;
      time = None;
    } ≡ metric_of_call s (plain_call kind key ns)
unfolding metric_of_call
metric_of_plain s kind key ns =
    ap (λ (ts : List Tag). record {
      name = s.prefix ++ key;
      numbers = ns;
      kind = kind;
      rate = None;
      tags = ts;
      container = s.container;
      enrichment = s.enrichment;
      time = None;
    }) (sym (append-nil s.tags))
