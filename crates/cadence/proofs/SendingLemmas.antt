-- What an option changes in a builder, and what a builder sends: for each call, it is the draft, or the line, of the
-- call with the builder's options. And what calls without options send by a builder.
use Rattle.std.proofs.Common.{◌≡◌, ◌∙◌, ℕ, List, [], ◌∷◌, ◌++◌, codes, Result, Ok, Err, Bool, true, false, string_bytes, Option, None, Some}
use Rattle.std.proofs.Common.{if◌then◌else◌, ap, ap₂, inl, refl, subst, sym}
use Rattle.std.specs.Int.{is_negative}
use Rattle.std.specs.Option.{option_map}
use Rattle.cadence_errors.specs.Errors.{Gives}
use Rattle.cadence_errors.specs.declared.MetricError.{MetricError}
use Rattle.cadence_text.specs.declared.line.MetricType.{MetricType}
use Rattle.cadence_text.specs.declared.line.MetricType.TheVariants.{Gauge}
use Rattle.cadence_text.specs.Draft.{Draft, draft_line, draft_with}
use Rattle.cadence_text.specs.Line.{line_with}
use Rattle.cadence_text.specs.Metric.{Metric}
use Rattle.cadence_text.proofs.writing.DraftText.{line_of_draft_with, tagged_draft}
use Rattle.cadence_value.specs.Chances.{IsBelow}
use Rattle.cadence_value.specs.Number.{Number, natural, numbers_text}
use Rattle.cadence_settings.specs.Call.{Choice, tagged, contained, timed, rated, enriched, MetricCall, allows_call, chosen, metric_of_call, plain_call, with_choice}
use Rattle.cadence_settings.specs.Settings.{Settings}
use Rattle.cadence_settings.proofs.calls.CallOptions.{chosen-metric_of_call}
use Rattle.cadence.specs.Sending.{SinkResults, AppliesOption, HasSentCall, IsLineText, IsMadeFrom, SendsIfAny, SendsLine, SendsValue, StartsValue}
use Rattle.cadence.specs.Sending.{SendsBoth, SendsLevel, SendsPending, StandsFor, StandsForMore, StartsPlain, allowed_value, draft_with_choice, level_text}
use Rattle.cadence.specs.Sending.{SendsSampled, choice_for, number_line, plain_metric_of}

-- The draft of a metric with a text as its value, with an option, is the draft of the metric with this option.
draft_with_choice-metric : (v : List ℕ) (m : Metric) (o : Choice) → draft_with_choice (draft_with v m) o ≡ draft_with v (chosen m o)
draft_with_choice-metric v m (tagged t) = tagged_draft v m t
draft_with_choice-metric v m (contained c) = refl
draft_with_choice-metric v m (timed n) = refl
draft_with_choice-metric v m (rated r) = refl
draft_with_choice-metric v m (enriched k) = refl

-- The draft of a call's metric, with an option, is the draft of the metric of the call with this option.
draft_with_choice-call : (s : Settings) (c : MetricCall) (v : List ℕ) (o : Choice) (d : Draft) → d ≡ draft_with v (metric_of_call s c)
    → draft_with_choice d o ≡ draft_with v (metric_of_call s (with_choice c o))
draft_with_choice-call s c v o d e = ap (λ (x : Draft). draft_with_choice x o) e
    ∙ draft_with_choice-metric v (metric_of_call s c) o
    ∙ ap (λ (m : Metric). draft_with v m) (chosen-metric_of_call s c o)

-- If a pending draft is right for a call, then after an option it is right for this call with the option.
pub stands_for_more : (settings : Settings) (takes_memory : Bool) (old new : Result Draft MetricError) (o : Choice)
    → AppliesOption settings takes_memory old o new → StandsForMore old (choice_for settings o) new
stands_for_more settings takes_memory (Err e) new o h =
    record { for_each = λ s c v _. subst (λ (p : Result Draft MetricError). StandsFor s (with_choice c (choice_for settings o)) v p) (sym h.stays) tt }
stands_for_more settings takes_memory (Ok d) (Ok n) o h = record { for_each = λ s c v e. h.applied.1 ∙ draft_with_choice-call s c v (choice_for settings o) d e }
stands_for_more settings takes_memory (Ok d) (Err x) o h = record { for_each = λ s c v e. tt }

-- If the line of a pending draft was sent, then for each call of which the draft is the right one, the line of this call
-- was sent.
pub has_sent_call : {M : Type 0} (may : SinkResults) (made : List ℕ → M → Type 0) (pending : Result Draft MetricError) (answer : Result M MetricError)
    → SendsPending may made pending answer → HasSentCall may made pending answer
has_sent_call may made (Ok d) answer h = record {
  for_each = λ s c v e. subst (λ (line : List ℕ). SendsLine may made line answer) (ap draft_line e
      ∙ line_of_draft_with v (metric_of_call s c)) h.sent;
}
has_sent_call may made (Err d) answer h = record { for_each = λ s c v e. tt }

-- A draft belongs to a call. If the line of this draft with a rate was sent, then the line of this call with this rate
-- was sent.
sends_rated : {M : Type 0} (may : SinkResults) (made : List ℕ → M → Type 0) (d : Draft) (n : Number) (answer : Result M MetricError)
    → SendsLine may made (draft_line (record d { rate = Some n })) answer
    → (s : Settings) (c : MetricCall) (v : List ℕ) → d ≡ draft_with v (metric_of_call s c)
    → SendsLine may made (line_with v (metric_of_call s (with_choice c (rated n)))) answer
sends_rated may made d n answer h s c v e = subst (λ (line : List ℕ). SendsLine may made line answer)
    (ap draft_line (draft_with_choice-call s c v (rated n) d e) ∙ line_of_draft_with v (metric_of_call s (with_choice c (rated n)))) h

-- If the line of a draft with a chance as its rate was sent, and the number drawn is below the chance, a sample was sent.
pub sampled_sent : {M : Type 0} (may : SinkResults) (made : List ℕ → M → Type 0) (d e : Draft) (chance rate : Number) (draw : ℕ) (m : M)
    → e ≡ record d { rate = Some rate } → rate ≡ chance → IsBelow draw chance → SendsLine may made (draft_line e) (Ok m)
    → SendsSampled may made (Ok d) chance draw (Ok (Some m))
sampled_sent may made d e chance rate draw m is same below h = record {
  chosen = λ _. sends_rated may made d chance (Ok m)
      (subst (λ (x : Draft). SendsLine may made (draft_line x) (Ok m)) (is ∙ ap (λ (n : Number). record d { rate = Some n }) same) h);
  passed = λ no. absurd (no below);
  failed = tt;
}

-- The same if the line was refused.
pub sampled_refused : {M : Type 0} (may : SinkResults) (made : List ℕ → M → Type 0) (d e : Draft) (chance rate : Number) (draw : ℕ) (x : MetricError)
    → e ≡ record d { rate = Some rate } → rate ≡ chance → IsBelow draw chance → SendsLine may made (draft_line e) (Err x)
    → SendsSampled may made (Ok d) chance draw (Err x)
sampled_refused {M} may made d e chance rate draw x is same below h = record {
  chosen = λ _. sends_rated may made d chance (Err x)
      (subst (λ (y : Draft). SendsLine may made (draft_line y) (Err x)) (is ∙ ap (λ (n : Number). record d { rate = Some n }) same) h);
  passed = λ no. absurd (no below);
  failed = tt;
}

-- What was returned is the metric of a line, if it was made from a string that is the line.
made_line : (Z : Type 0) (may : SinkResults) (line : List ℕ) (answer : Result (List ℕ) MetricError)
    → SendsLine may (IsMadeFrom {M = List ℕ} {Z = Z} (λ s text. text ≡ string_bytes s)) line answer → SendsLine may IsLineText line answer
made_line Z may line (Ok m) ((s, is, gives), sent) = (gives ∙ is, sent)
made_line Z may line (Err e) h = h

-- A draft that a builder started with was sent, so the line with this value was.
sends_given : (Z : Type 0) (may : SinkResults) (m : Metric) (value : Option (List ℕ)) (pending : Result Draft MetricError) (answer : Result (List ℕ) MetricError)
    → Gives (λ v d. d ≡ draft_with v m) value pending
    → SendsPending may (IsMadeFrom {M = List ℕ} {Z = Z} (λ s text. text ≡ string_bytes s)) pending answer
    → SendsIfAny may IsLineText (option_map (λ v. line_with v m) value) answer
sends_given Z may m (Some v) (Ok d) answer e h = subst (λ (line : List ℕ). SendsLine may IsLineText line answer)
    (ap draft_line e ∙ line_of_draft_with v m) (made_line Z may (draft_line d) answer h.sent)
sends_given Z may m (Some v) (Err x) answer e h =
    subst (λ (a : Result (List ℕ) MetricError). SendsLine may IsLineText (line_with v m) a) (sym h.failed) (inl e)
sends_given Z may m None (Ok d) answer e h = absurd e
sends_given Z may m None (Err x) answer e h =
    subst (λ (a : Result (List ℕ) MetricError). SendsIfAny may IsLineText None a) (sym h.failed) e

-- If the builder of a client starts with a value and is sent, the call of the client sends the value.
pub sends_value : (Z : Type 0) {C : Type 0} (settings : Settings) (may : C → SinkResults) (client backend : C) (kind : MetricType) (key : List ℕ)
    (value : Option (List ℕ)) (pending : Result Draft MetricError) (answer : Result (List ℕ) MetricError) → backend ≡ client
    → StartsValue settings kind key value pending
    → SendsPending (may backend) (IsMadeFrom {M = List ℕ} {Z = Z} (λ s text. text ≡ string_bytes s)) pending answer
    → SendsValue settings (may client) kind key value answer
sends_value Z {C} settings may client backend kind key value pending answer same starts h = record {
  is = sends_given Z (may client) (plain_metric_of settings kind key) (allowed_value settings kind key value) pending answer starts.is
      (subst (λ (b : C). SendsPending (may b) (IsMadeFrom {M = List ℕ} {Z = Z} (λ s text. text ≡ string_bytes s)) pending answer) same h);
}

-- If the builders of the number 0 and of a number below 0 are sent together, the call sets the gauge to the number.
sends_zero_first : (Z : Type 0) (may : SinkResults) (m : Metric) (n : Number) (allowed : Bool) (first second : Result Draft MetricError)
    (answer : Result (List ℕ) MetricError) → is_negative n.mantissa ≡ true
    → Gives (λ v d. d ≡ draft_with v m) (if allowed then Some (numbers_text (natural 0 ∷ [])) else None) first
    → Gives (λ v d. d ≡ draft_with v m) (if allowed then Some (numbers_text (n ∷ [])) else None) second
    → SendsBoth may (IsMadeFrom {M = List ℕ} {Z = Z} (λ s text. text ≡ string_bytes s)) first second answer
    → SendsIfAny may IsLineText (option_map (λ (v : List ℕ). level_text n m) (if allowed then Some [] else None)) answer
sends_zero_first Z may m n true (Ok d) (Ok e) answer below zero is h = subst (λ (line : List ℕ). SendsLine may IsLineText line answer)
    (ap₂ (λ (a b : List ℕ). a ++ (codes "\n" ++ b)) (ap draft_line zero ∙ line_of_draft_with (numbers_text (natural 0 ∷ [])) m)
    (ap draft_line is ∙ line_of_draft_with (numbers_text (n ∷ [])) m)
    ∙ sym (ap (λ (b : Bool). if b then number_line (natural 0) m ++ (codes "\n" ++ number_line n m) else number_line n m) below))
    (made_line Z may (draft_line d ++ (codes "\n" ++ draft_line e)) answer h.sent)
sends_zero_first Z may m n true (Ok d) (Err x) answer below zero is h =
    subst (λ (a : Result (List ℕ) MetricError). SendsLine may IsLineText (level_text n m) a) (sym h.second_failed) (inl is)
sends_zero_first Z may m n true (Err x) second answer below zero is h =
    subst (λ (a : Result (List ℕ) MetricError). SendsLine may IsLineText (level_text n m) a) (sym h.failed) (inl zero)
sends_zero_first Z may m n false (Ok d) second answer below zero is h = absurd zero
sends_zero_first Z may m n false (Err x) second answer below zero is h =
    subst (λ (a : Result (List ℕ) MetricError). SendsIfAny may IsLineText None a) (sym h.failed) zero

pub sends_level_below : (Z : Type 0) {C : Type 0} (settings : Settings) (may : C → SinkResults) (client backend : C) (key : List ℕ) (n : Number)
    (first second : Result Draft MetricError) (answer : Result (List ℕ) MetricError) → backend ≡ client → is_negative n.mantissa ≡ true
    → StartsPlain settings Gauge key (Some (natural 0 ∷ [])) first → StartsPlain settings Gauge key (Some (n ∷ [])) second
    → SendsBoth (may backend) (IsMadeFrom {M = List ℕ} {Z = Z} (λ s text. text ≡ string_bytes s)) first second answer
    → SendsLevel settings (may client) key n answer
sends_level_below Z {C} settings may client backend key n first second answer same below zero is h = record {
  is = sends_zero_first Z (may client) (plain_metric_of settings Gauge key) n (allows_call settings (plain_call Gauge key [])) first second answer
      below zero.is is.is
      (subst (λ (b : C). SendsBoth (may b) (IsMadeFrom {M = List ℕ} {Z = Z} (λ s text. text ≡ string_bytes s)) first second answer) same h);
}

-- A number from 0 on is sent as it is.
sends_from_zero : (may : SinkResults) (m : Metric) (n : Number) (allowed : Bool) (answer : Result (List ℕ) MetricError)
    → is_negative n.mantissa ≡ false
    → SendsIfAny may IsLineText (option_map (λ v. line_with v m) (if allowed then Some (numbers_text (n ∷ [])) else None)) answer
    → SendsIfAny may IsLineText (option_map (λ (v : List ℕ). level_text n m) (if allowed then Some [] else None)) answer
sends_from_zero may m n true answer above h = subst (λ (line : List ℕ). SendsLine may IsLineText line answer)
    (sym (ap (λ (b : Bool). if b then number_line (natural 0) m ++ (codes "\n" ++ number_line n m) else number_line n m) above)) h
sends_from_zero may m n false answer above h = h

pub sends_level_above : (settings : Settings) (may : SinkResults) (key : List ℕ) (n : Number) (answer : Result (List ℕ) MetricError)
    → is_negative n.mantissa ≡ false → SendsValue settings may Gauge key (Some (numbers_text (n ∷ []))) answer
    → SendsLevel settings may key n answer
sends_level_above settings may key n answer above h = record {
  is = sends_from_zero may (plain_metric_of settings Gauge key) n (allows_call settings (plain_call Gauge key [])) answer above h.is;
}
