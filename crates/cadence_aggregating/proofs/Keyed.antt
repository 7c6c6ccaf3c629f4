-- The context of a key, which is that of the lines of its calls.
use Rattle.std.proofs.Common.{◌≡◌, ◌≢◌, ◌⊎◌, inl, inr, pos, List, [], ◌∷◌, Option, Some, None, Bool, true, false, map, refl, sym, ap, subst, ◌∙◌, rules, append-nil}
use Rattle.std.specs.Prelude.{ℕ, IsTrue, not, ◌&&◌, ◌||◌}
use Rattle.std.specs.Int.RustNames.{FitsSigned}
use Rattle.std.specs.List.{fold, list_all}
use Rattle.std.proofs.lemmas.List.Elements.{recursion_from_All}
use Rattle.std.proofs.lemmas.List.Folds.{list_all-map}
use mir.Syntax.{w64}
use Rattle.cadence_aggregate.specs.Server.{Sample, amount, level, member, timing, unclear, other}
use Rattle.cadence_errors.specs.declared.MetricError.{MetricError}
use Rattle.cadence_errors.specs.declared.input_error.InputError.{InputError}
use Rattle.cadence_read.proofs.OwnLines.{cut_once, own_cut}
use Rattle.cadence_read.proofs.ValuesRead.{whole_is_decimal}
use Rattle.cadence_read.specs.Cuts.{IsCut, Parts, line_of_parts, own_parts}
use Rattle.cadence_read.specs.Values.{IsNumberText}
use Rattle.cadence_settings.proofs.calls.CallOptions.{fold-chosen}
use Rattle.cadence_settings.specs.Call.{Choice, MetricCall, choice_as, chosen, chosen_time, contained, is_clear_call, is_clear_choice, last_or, metric_for}
use Rattle.cadence_settings.specs.Call.{enriched, metric_of_call, plain_call, rated, tagged, timed}
use Rattle.cadence_settings.specs.DraftErrors.{DraftFails, IsDraftFault}
use Rattle.cadence_settings.specs.Laws.{StrictCallsAreClear}
use Rattle.cadence_settings.specs.Settings.{HasSeparator, Settings, allows_text, is_clear_settings}
use Rattle.cadence_settings.specs.declared.settings.strict.Separator.{Separator}
use Rattle.cadence_text.specs.Cleaned.{text_as}
use Rattle.cadence_text.specs.FreeTexts.{is_clear_tag, is_free_text}
use Rattle.cadence_text.proofs.grammar.LineText.{kind_once}
use Rattle.cadence_text.specs.declared.line.MetricType.{MetricType}
use Rattle.cadence_text.specs.declared.line.MetricType.TheVariants.{Counter, Gauge, Set}
use Rattle.cadence_text.specs.Line.{kind_text, line_of}
use Rattle.cadence_text.specs.Metric.{Metric, Tag}
use Rattle.cadence_text.specs.OneReading.{IsClear}
use Rattle.cadence_value.proofs.lists.SplitTexts.{Lacks}
use Rattle.cadence_value.proofs.spelling.OwnText.{own_text}
use Rattle.cadence_value.specs.Number.{Number, natural, number_text, numbers_text, whole}
use Rattle.cadence_value.specs.SpelledNumber.{SaysNumber}
use Rattle.cadence_aggregating.specs.Additions.{IsAddable, IsAddition, context_of}
use Rattle.cadence_aggregating.specs.Contexts.{IsLineOfZero, IsUntimed, MayFailFor, sent_tag, tagged_call, zeros}
use Rattle.cadence_aggregating.specs.Keys.{IsKeyFor, IsKeyOfLine, SaysNeither, context_of_counter, context_of_gauge}
use Rattle.cadence_aggregating.specs.declared.keys.LineKey.{LineKey}
use Rattle.cadence_aggregating.specs.declared.keys.LineKey.TheVariants.{Raises, Sets}
use Rattle.cadence_aggregating.specs.declared.said.Addition.{Addition}
use Rattle.cadence_aggregating.specs.declared.said.Addition.TheVariants.{Amount, Level, Member, Timing}
use Rattle.cadence_aggregating.specs.Printed.{spliced}
use Rattle.cadence_aggregating.specs.Says.{IsContext, MetricSays, is_timed}
use Rattle.cadence_aggregating.proofs.OwnContext.{own_addable}
use Rattle.cadence_aggregating.proofs.Saying.{amount_said, context_cut, level_said, member_said, number_bar, parts_with, spliced_parts, timing_said, values_bar}

-- a call with tags alone has no time
pub tags_untimed : (tags : List Tag) → last_or chosen_time None (map tagged tags) ≡ None
tags_untimed [] = refl
tags_untimed (tag ∷ tags) = tags_untimed tags

-- a list that is mapped twice
pub mapped_twice : {X Y Z : Type 0} (f : Y → Z) (g : X → Y) (xs : List X) → map (λ x. f (g x)) xs ≡ map f (map g xs)
mapped_twice f g [] = refl
mapped_twice f g (x ∷ xs) = ap (λ zs. f (g x) ∷ zs) (mapped_twice f g xs)

none_is_clear : (free : Bool) → (free && false) ≡ false
none_is_clear true = refl
none_is_clear false = refl

-- a key is not made if a tag has a separator
pub tags_fail : (clear free : Bool) (e : MetricError) → clear ≡ false → HasSeparator e → MayFailFor (clear && free) e
tags_fail clear free e not_clear invalid = inr (invalid, ap (λ b. b && free) not_clear)

-- why the draft of a key was not made
pub draft_fails : (strict clear free : Bool) (why : InputError Separator) (e : MetricError) → strict ≡ true → DraftFails (not strict || free) why
    → IsDraftFault why e → MayFailFor (clear && free) e
draft_fails true clear true why e is fails same = inl (subst (λ w. IsDraftFault w e) fails same)
draft_fails true clear false why e is fails same = inr (subst (λ w. IsDraftFault w e) fails same, none_is_clear clear)
draft_fails false clear free why e is fails same = absurd cc

module _ (s : Settings) (kind : MetricType) (key : List ℕ) (tags : List Tag) where
  -- whether a call with clear tags is clear
  pub tagged_clear : is_clear_call (tagged_call kind key tags) ≡ (list_all is_clear_tag tags && is_free_text key)
  tagged_clear = ap (λ b. b && is_free_text key) (list_all-map is_clear_choice tagged tags)

  -- the metric of a call with tags, whose number is 0
  tagged_metric : fold chosen (metric_for s (plain_call kind key zeros)) (map (sent_tag s.cleaned) tags)
      ≡ metric_for s (record (tagged_call kind key tags) { numbers = zeros })
  tagged_metric =
      fold-chosen s (record (plain_call kind key zeros) { key = text_as s.cleaned key }) (map (sent_tag s.cleaned) tags)
      ∙ ap (λ cs. metric_of_call s (record { kind = kind; key = text_as s.cleaned key; numbers = zeros; choices = cs })) (mapped_twice (choice_as s.cleaned) tagged tags)

  -- the line of zero of a call with tags
  pub zero_of_tagged : (line : List ℕ) → StrictCallsAreClear → IsTrue s.strict → IsTrue (is_clear_settings s) → list_all is_clear_tag tags ≡ true
      → IsTrue (allows_text s key) → line ≡ line_of (fold chosen (metric_for s (plain_call kind key zeros)) (map (sent_tag s.cleaned) tags))
      → IsLineOfZero s (tagged_call kind key tags) line
  zero_of_tagged line clear strict settings tags_clear allowed is =
      let free : is_free_text key ≡ true = ap (λ b. not b || is_free_text key) (sym strict) ∙ allowed in
      let both : is_clear_call (tagged_call kind key tags) ≡ true =
      tagged_clear ∙ ap (λ b. b && is_free_text key) tags_clear ∙ free in
      record {
        clear = clear s (record (tagged_call kind key tags) { numbers = zeros }) strict settings
            (ap (λ b. not b || is_clear_call (tagged_call kind key tags)) strict ∙ both);
        whole = sym (is ∙ ap line_of tagged_metric);
      }

-- the text of zero
abbrev nought : Number
nought = whole (pos 0)

zero_number : SaysNumber (number_text nought) nought
zero_number = own_text (number_text nought) nought (whole_is_decimal (pos 0) (search rules)) refl

zero_text : SaysNumber (numbers_text zeros) nought
zero_text = subst (λ t. SaysNumber t nought) (sym (append-nil (number_text nought))) zero_number

zero_value : IsNumberText (numbers_text zeros)
zero_value =
    subst IsNumberText (sym (append-nil (number_text nought))) (nought, (whole_is_decimal (pos 0) (search rules), zero_number))

no_member : {kind : MetricType} → (kind ≡ Counter) ⊎ (kind ≡ Gauge) → kind ≡ Set → ⊥
no_member (inl kind) is_set = cc (sym kind ∙ is_set)
no_member (inr kind) is_set = cc (sym kind ∙ is_set)

no_timing : {kind : MetricType} → (kind ≡ Counter) ⊎ (kind ≡ Gauge) → is_timed kind ≡ true → ⊥
no_timing (inl kind) of_times = cc (sym of_times ∙ ap is_timed kind)
no_timing (inr kind) of_times = cc (sym of_times ∙ ap is_timed kind)

-- the line of a metric with other numbers
abbrev numbered : Metric → List Number → Metric
numbered m ns = record m { numbers = ns }

numbered_line : (m : Metric) (n : Number) → line_of (numbered m (n ∷ [])) ≡ line_of_parts (record (own_parts m) { values = number_text n })
unfolding line_of
numbered_line m n = ap (λ t. line_of_parts (record (own_parts m) { values = t })) (append-nil (number_text n))

-- What is known of a line with a context that is also the line of a metric: the kind is that of the metric, and the line of
-- the context with a number is that of the metric with this number.
module _ (kind : MetricType) (c values line : List ℕ) (h : IsContext kind c) (its : line ≡ spliced c values) (bar : Lacks 124 values)
    (m : Metric) (clear : IsClear m) (whole_line : line_of m ≡ line) where
  same_parts : parts_with kind c h values ≡ own_parts m
  same_parts =
      cut_once line (parts_with kind c h values) (own_parts m)
      (subst (λ t. IsCut t (parts_with kind c h values)) (sym its) (context_cut kind c h values bar))
      (subst (λ t. IsCut t (own_parts m)) whole_line (own_cut m clear))

  same_kind : kind ≡ m.kind
  same_kind = kind_once kind m.kind (ap (λ p. p.kind) same_parts)

  same_line : (n : Number) → spliced c (number_text n) ≡ line_of (numbered m (n ∷ []))
  same_line n =
      spliced_parts kind c h (number_text n) ∙ ap (λ p. line_of_parts (record p { values = number_text n })) same_parts ∙ sym (numbered_line m n)

-- a call without a time has none in its line
own_untimed : (cleaned : Bool) (default : Option ℕ) (os : List Choice)
    → last_or chosen_time default (map (choice_as cleaned) os) ≡ last_or chosen_time default os
own_untimed cleaned default [] = refl
own_untimed cleaned default (tagged t ∷ os) = own_untimed cleaned default os
own_untimed cleaned default (contained c ∷ os) = own_untimed cleaned default os
own_untimed cleaned default (timed n ∷ os) = own_untimed cleaned (Some n) os
own_untimed cleaned default (rated r ∷ os) = own_untimed cleaned default os
own_untimed cleaned default (enriched k ∷ os) = own_untimed cleaned default os

module _ (s : Settings) (call : MetricCall) (line : List ℕ) (zero : IsLineOfZero s call line) where
  abbrev own : Metric
  own = metric_for s (record call { numbers = zeros })

  kind_found : (kind : MetricType) (c values : List ℕ) → IsContext kind c → line ≡ spliced c values → Lacks 124 values → kind ≡ call.kind
  unfolding metric_of_call
  kind_found kind c values h its bar = same_kind kind c values line h its bar own zero.clear zero.whole

  -- the key of the line is that of the call
  pub key_for : (key : LineKey) → IsKeyOfLine line key → IsKeyFor s call key
  unfolding metric_of_call
  key_for (Raises key) (n, (h, fits, (text, its, says))) =
      let bar = number_bar text (whole n) says in
      let c = context_of_counter key in
      (sym (kind_found Counter c text h its bar), λ k. same_line Counter c text line h its bar own zero.clear zero.whole (whole k))
  key_for (Sets key) (v, (h, its, (n, (decimal, says)))) =
      let bar = number_bar v n says in
      let c = context_of_gauge key in
      (sym (kind_found Gauge c v h its bar), λ k. same_line Gauge c v line h its bar own zero.clear zero.whole (natural k))

  own_says : (kind : MetricType) → own.kind ≡ kind → own.time ≡ None → (a : Addition) → IsAddition (own_parts own) a → (said : Sample) × MetricSays line said
  own_says kind is untimed a added = subst (λ t. (said : Sample) × MetricSays t said) zero.whole
      (says (line_of own) (own_parts own) (own_cut own zero.clear) (own_addable own zero.clear untimed) a added)
    where
      says : (l : List ℕ) (p : Parts) → IsCut l p → IsAddable l p.name → (a : Addition) → IsAddition p a → (said : Sample) × MetricSays l said
      says l p cut addable (Amount n) h = (amount (context_of p) n, amount_said l p cut addable n h)
      says l p cut addable Level h = (level (context_of p) p.values, level_said l p cut addable h)
      says l p cut addable Member h = (member l, member_said l p cut addable h)
      says l p cut addable Timing h = (timing (context_of p) p.values, timing_said l p cut addable h)

  -- the line says what it is made to say
  zero_says : (call.kind ≡ Counter) ⊎ (call.kind ≡ Gauge) → IsUntimed call → (said : Sample) × MetricSays line said
  unfolding metric_of_call
  zero_says (inl kind) untimed =
      let fits : FitsSigned w64 (pos 0) = search rules in
      own_says Counter kind (own_untimed s.cleaned None call.choices ∙ untimed) (Amount (pos 0)) (Counter, ap kind_text kind, (refl, zero_text, fits))
  zero_says (inr kind) untimed =
      own_says Gauge kind (own_untimed s.cleaned None call.choices ∙ untimed) Level (Gauge, ap kind_text kind, (refl, zero_value))

  -- the line of a call that counts raises a counter, and that of a call that sets a gauge sets one
  pub does_either : (call.kind ≡ Counter) ⊎ (call.kind ≡ Gauge) → IsUntimed call → SaysNeither line → ⊥
  does_either kinds untimed (amount c n, says, h) = absurd h
  does_either kinds untimed (level c v, says, h) = absurd h
  does_either kinds untimed (member l, (same, (c, text, h, its, is)), none) =
      no_member kinds (sym (kind_found Set c text h its (recursion_from_All (λ b. b ≢ 124) text is.bar)))
  does_either kinds untimed (timing c t, ((kind, of_times, h), its, numbers), none) =
      no_timing kinds (ap is_timed (sym (kind_found kind c t h its (values_bar t numbers))) ∙ of_times)
  does_either kinds untimed (unclear l, (same, nothing, marked), h) = let (said, says) = zero_says kinds untimed in nothing said says
  does_either kinds untimed (other l, (same, nothing, unmarked), h) = let (said, says) = zero_says kinds untimed in nothing said says
