-- The metrics that strict settings allow are clear, and strict settings stay so with what they allow.
use Rattle.std.proofs.Common.{◌≡◌, ◌⊎◌, inl, inr, ⊎_elim, ℕ, List, [], ◌∷◌, ◌++◌, Option, Some, None, Bool, true, false, map, refl, subst, sym, ◌∙◌}
use Rattle.std.specs.Prelude.{All, IfSome, IsTrue, if◌then◌else◌, ◌&&◌, ◌||◌, not}
use Rattle.std.specs.List.{filter_map, list_all}
use Rattle.std.proofs.lemmas.Bool.{and_from, and_parts}
use Rattle.std.proofs.lemmas.List.Folds.{list_all-append}
use Rattle.std.proofs.lemmas.List.Elements.{All-append, All-cons, All-nil}
use Rattle.std.specs.Option.{option_map}
use Rattle.cadence_text.specs.Cleaned.{CleanedTextsAreClear, cleaned_tag, container_as, tag_as, text_as}
use Rattle.cadence_text.specs.Laws.{ClearTextsPass}
use Rattle.cadence_text.specs.Metric.{Metric, Tag}
use Rattle.cadence_text.specs.OneReading.{IsClear, IsClearTag, IsFreeText, IsNoSeparator}
use Rattle.cadence_settings.specs.Call.{Choice, tagged, contained, timed, rated, enriched, MetricCall, metric_of_call, chosen_tag, chosen_container, last_or}
use Rattle.cadence_settings.specs.Call.{allows_call, call_for, choice_as, is_clear_call, is_clear_choice, metric_for}
use Rattle.cadence_value.specs.Number.{Number}
use Rattle.cadence_settings.specs.declared.call.Call.{Call}
use Rattle.cadence_settings.specs.CallData.{call_of, metric_of_data, numbers_of_value}
use Rattle.cadence_settings.specs.Laws.{CleanedCallsAreClear, StrictCallsAreClear}
use Rattle.cadence_text.specs.FreeTexts.{is_field_if_any, is_field_text, is_free_text, is_free_if_any, is_clear_tag}
use Rattle.cadence_settings.specs.Settings.{Settings, clears_texts, is_clear_settings, allows_tag, allows_text, with_cleaned_texts, with_external}

-- what clear settings are made of
record AreClearParts (s : Settings) : Type 0 where
  pub prefix : is_free_text s.prefix ≡ true
  pub tags : list_all is_clear_tag s.tags ≡ true
  pub container : is_free_if_any s.container ≡ true
  pub external : is_field_if_any s.enrichment.external ≡ true

clear_parts : (s : Settings) → is_clear_settings s ≡ true → AreClearParts s
clear_parts s h =
    let last = is_free_if_any s.container && is_field_if_any s.enrichment.external in
    let (prefix, defaults) = and_parts (is_free_text s.prefix) (list_all is_clear_tag s.tags && last) h in
    let (tags, ends) = and_parts (list_all is_clear_tag s.tags) last defaults in
    let (container, external) = and_parts (is_free_if_any s.container) (is_field_if_any s.enrichment.external) ends in
    record { prefix = prefix; tags = tags; container = container; external = external }

clear_from : (s : Settings) → AreClearParts s → is_clear_settings s ≡ true
clear_from s h =
    let last = is_free_if_any s.container && is_field_if_any s.enrichment.external in
    and_from (is_free_text s.prefix) (list_all is_clear_tag s.tags && last) h.prefix
    (and_from (list_all is_clear_tag s.tags) last h.tags
    (and_from (is_free_if_any s.container) (is_field_if_any s.enrichment.external) h.container h.external))

clear_chosen_tags : ClearTextsPass → (os : List Choice) → list_all is_clear_choice os ≡ true → All IsClearTag (filter_map chosen_tag os)
clear_chosen_tags law [] h = All-nil IsClearTag
clear_chosen_tags law (tagged t ∷ os) h =
    let (first, rest) = and_parts (is_clear_tag t) (list_all is_clear_choice os) h in
    All-cons IsClearTag t (filter_map chosen_tag os) ((law.tag t).0 first) (clear_chosen_tags law os rest)
clear_chosen_tags law (contained c ∷ os) h = clear_chosen_tags law os (and_parts (is_free_text c) (list_all is_clear_choice os) h).1
clear_chosen_tags law (timed n ∷ os) h = clear_chosen_tags law os h
clear_chosen_tags law (rated r ∷ os) h = clear_chosen_tags law os h
clear_chosen_tags law (enriched k ∷ os) h = clear_chosen_tags law os h

free_container : ClearTextsPass → (default : Option (List ℕ)) (os : List Choice) → IfSome default IsFreeText → list_all is_clear_choice os ≡ true
    → IfSome (last_or chosen_container default os) IsFreeText
free_container law default [] free h = free
free_container law default (tagged t ∷ os) free h =
    free_container law default os free (and_parts (is_clear_tag t) (list_all is_clear_choice os) h).1
free_container law default (contained c ∷ os) free h =
    let (first, rest) = and_parts (is_free_text c) (list_all is_clear_choice os) h in free_container law (Some c) os ((law.texts c).0 first) rest
free_container law default (timed n ∷ os) free h = free_container law default os free h
free_container law default (rated r ∷ os) free h = free_container law default os free h
free_container law default (enriched k ∷ os) free h = free_container law default os free h

-- the metric of a call is clear, if the call and the settings are
clear_metric : ClearTextsPass → (s : Settings) (c : MetricCall) → is_clear_settings s ≡ true → is_clear_call c ≡ true
    → IsClear (metric_of_call s c)
unfolding metric_of_call
clear_metric law s c settings call =
    let clear = clear_parts s settings in
    let (choices, key) = and_parts (list_all is_clear_choice c.choices) (is_free_text c.key) call in
    record {
      name = All-append IsNoSeparator s.prefix c.key ((law.texts s.prefix).0 clear.prefix) ((law.texts c.key).0 key);
      tags = All-append IsClearTag s.tags (filter_map chosen_tag c.choices) ((law.tags s.tags).0 clear.tags)
          (clear_chosen_tags law c.choices choices);
      container = free_container law s.container c.choices ((law.any s.container).0 clear.container) choices;
      external = (law.field s.enrichment.external).0 clear.external;
    }

-- cleaned texts are clear, and texts that are clear stay so
module _ (law : CleanedTextsAreClear) where
  clear_text_as : (cleaned : Bool) (text : List ℕ) → is_free_text text ≡ true → is_free_text (text_as cleaned text) ≡ true
  clear_text_as true text h = law.text text
  clear_text_as false text h = h

  pub clear_tag_as : (cleaned : Bool) (t : Tag) → is_clear_tag t ≡ true → is_clear_tag (tag_as cleaned t) ≡ true
  clear_tag_as true t h = law.tag t
  clear_tag_as false t h = h

  clear_choice_as : (cleaned : Bool) (o : Choice) → is_clear_choice o ≡ true → is_clear_choice (choice_as cleaned o) ≡ true
  clear_choice_as cleaned (tagged t) h = clear_tag_as cleaned t h
  clear_choice_as cleaned (contained c) h = clear_text_as cleaned c h
  clear_choice_as cleaned (timed n) h = h
  clear_choice_as cleaned (rated r) h = h
  clear_choice_as cleaned (enriched k) h = h

  clear_choices_as : (cleaned : Bool) (os : List Choice) → list_all is_clear_choice os ≡ true
      → list_all is_clear_choice (map (choice_as cleaned) os) ≡ true
  clear_choices_as cleaned [] h = refl
  clear_choices_as cleaned (o ∷ os) h =
      let (first, rest) = and_parts (is_clear_choice o) (list_all is_clear_choice os) h in
      and_from (is_clear_choice (choice_as cleaned o)) (list_all is_clear_choice (map (choice_as cleaned) os))
      (clear_choice_as cleaned o first) (clear_choices_as cleaned os rest)

  -- the metric of each call that strict settings allow is clear
  pub strict_call_clear : ClearTextsPass → (s : Settings) (c : MetricCall) → IsTrue s.strict → IsTrue (is_clear_settings s)
      → IsTrue (allows_call s c) → IsClear (metric_for s c)
  strict_call_clear pass s c strict settings allowed =
      let clear : is_clear_call c ≡ true = subst (λ (b : Bool). (not b || is_clear_call c) ≡ true) strict allowed in
      let (choices, key) = and_parts (list_all is_clear_choice c.choices) (is_free_text c.key) clear in
      clear_metric pass s (call_for s c) settings
      (and_from (list_all is_clear_choice (map (choice_as s.cleaned) c.choices)) (is_free_text (text_as s.cleaned c.key))
      (clear_choices_as s.cleaned c.choices choices) (clear_text_as s.cleaned c.key key))

  cleaned_choice : (o : Choice) → is_clear_choice (choice_as true o) ≡ true
  cleaned_choice (tagged t) = law.tag t
  cleaned_choice (contained c) = law.text c
  cleaned_choice (timed n) = refl
  cleaned_choice (rated r) = refl
  cleaned_choice (enriched k) = refl

  cleaned_choices : (os : List Choice) → list_all is_clear_choice (map (choice_as true) os) ≡ true
  cleaned_choices [] = refl
  cleaned_choices (o ∷ os) =
      and_from (is_clear_choice (choice_as true o)) (list_all is_clear_choice (map (choice_as true) os)) (cleaned_choice o)
      (cleaned_choices os)

  -- the metric of each call of settings that clean texts is clear
  pub cleaned_call_clear : ClearTextsPass → (s : Settings) (c : MetricCall) → IsTrue s.cleaned → IsTrue (is_clear_settings s)
      → IsClear (metric_for s c)
  cleaned_call_clear pass s c cleaned settings =
      clear_metric pass s (call_for s c) settings
      (and_from (list_all is_clear_choice (map (choice_as s.cleaned) c.choices)) (is_free_text (text_as s.cleaned c.key))
      (subst (λ (b : Bool). list_all is_clear_choice (map (choice_as b) c.choices) ≡ true) (sym cleaned) (cleaned_choices c.choices))
      (subst (λ (b : Bool). is_free_text (text_as b c.key) ≡ true) (sym cleaned) (law.text c.key)))

  -- a default tag that the settings allow is clear
  allowed_clear : (strict cleaned : Bool) (t : Tag) → (strict || cleaned) ≡ true → (not strict || is_clear_tag t) ≡ true
      → is_clear_tag (tag_as cleaned t) ≡ true
  allowed_clear strict true t either allowed = law.tag t
  allowed_clear true false t either allowed = allowed
  allowed_clear false false t either allowed = absurd cc

  pub kept_clear : (s : Settings) (t : Tag) → IsTrue (s.strict || s.cleaned) → IsTrue (allows_tag s t)
      → is_clear_tag (tag_as s.cleaned t) ≡ true
  kept_clear s t either allowed = allowed_clear s.strict s.cleaned t either allowed

  allowed_free : (strict cleaned : Bool) (t : List ℕ) → (strict || cleaned) ≡ true → (not strict || is_free_text t) ≡ true
      → is_free_text (text_as cleaned t) ≡ true
  allowed_free strict true t either allowed = law.text t
  allowed_free true false t either allowed = allowed
  allowed_free false false t either allowed = absurd cc

  pub kept_free : (s : Settings) (t : List ℕ) → IsTrue (s.strict || s.cleaned) → IsTrue (allows_text s t)
      → is_free_text (text_as s.cleaned t) ≡ true
  kept_free s t either allowed = allowed_free s.strict s.cleaned t either allowed

  cleaned_tags_clear : (ts : List Tag) → list_all is_clear_tag (map cleaned_tag ts) ≡ true
  cleaned_tags_clear [] = refl
  cleaned_tags_clear (t ∷ ts) =
      and_from (is_clear_tag (cleaned_tag t)) (list_all is_clear_tag (map cleaned_tag ts)) (law.tag t) (cleaned_tags_clear ts)

  cleaned_container_free : (c : Option (List ℕ)) → is_free_if_any (container_as true c) ≡ true
  cleaned_container_free None = refl
  cleaned_container_free (Some c) = law.text c

  -- settings with cleaned texts are clear
  pub cleaned_settings_clear : (s : Settings) → IsTrue (is_field_if_any s.enrichment.external) → IsTrue (is_clear_settings (with_cleaned_texts s))
  cleaned_settings_clear s external = clear_from (with_cleaned_texts s) (record {
    prefix = law.text s.prefix;
    tags = cleaned_tags_clear s.tags;
    container = cleaned_container_free s.container;
    external = external;
  })

-- clear settings are clear with another container that is free of separators
pub clear_with_container : (s : Settings) (c : List ℕ) → IsTrue (is_clear_settings s) → is_free_text c ≡ true
    → IsTrue (is_clear_settings (record s { container = Some c }))
clear_with_container s c free one =
    let was = clear_parts s free in
    clear_from (record s { container = Some c }) (record { prefix = was.prefix; tags = was.tags; container = one; external = was.external })

-- clear settings are clear with other external data that can be the text of a field
pub clear_with_external : (s : Settings) (e : List ℕ) → IsTrue (is_clear_settings s) → is_field_text e ≡ true
    → IsTrue (is_clear_settings (with_external s e))
clear_with_external s e free one =
    let was = clear_parts s free in
    clear_from (with_external s e) (record { prefix = was.prefix; tags = was.tags; container = was.container; external = one })

-- clear settings are clear with one more clear default tag
pub clear_with_tag : (s : Settings) (t : Tag) → IsTrue (is_clear_settings s) → is_clear_tag t ≡ true
    → IsTrue (is_clear_settings (record s { tags = s.tags ++ t ∷ [] }))
clear_with_tag s t free one =
    let was = clear_parts s free in
    clear_from (record s { tags = s.tags ++ t ∷ [] }) (record {
      prefix = was.prefix;
      tags = list_all-append is_clear_tag s.tags (t ∷ [])
          ∙ and_from (list_all is_clear_tag s.tags) (is_clear_tag t && true) was.tags (and_from (is_clear_tag t) true one refl);
      container = was.container;
      external = was.external;
    })

-- the metric of each call that is kept as data is clear, if the settings are strict and clear
by_allowed : (P : Metric → Type 0) (allowed : Bool) (numbers : Option (List Number)) (f : List Number → Metric)
    → (allowed ≡ true → (ns : List Number) → P (f ns)) → IfSome (option_map f (if allowed then numbers else None)) P
by_allowed P true (Some ns) f h = h refl ns
by_allowed P true None f h = tt
by_allowed P false numbers f h = tt

-- Settings that clear texts are strict, or clean texts.
pub strict_or_cleaned : (strict cleaned : Bool) → IsTrue (strict || cleaned) → IsTrue strict ⊎ IsTrue cleaned
strict_or_cleaned true cleaned either = inl refl
strict_or_cleaned false cleaned either = inr either

-- The metric of each call is clear, if the settings clear texts.
pub cleared_data : {Z : Type 0} (s : Settings) → StrictCallsAreClear → CleanedCallsAreClear → IsTrue (clears_texts s) → IsTrue (is_clear_settings s)
    → (c : Call Z) → IfSome (metric_of_data s c) IsClear
cleared_data s of_strict of_cleaned clears clear c =
    by_allowed IsClear (allows_call s (call_of c [])) (numbers_of_value c.value) (λ ns. metric_for s (call_of c ns))
    (λ allowed ns. ⊎_elim (λ strict. of_strict s (call_of c ns) strict clear allowed) (λ cleaned. of_cleaned s (call_of c ns) cleaned clear)
    (strict_or_cleaned s.strict s.cleaned clears))
